-- The whole part of a square root, and the whole number nearest to one.
use Rattle.std.specs.Prelude.{cond, ℕ, zero, suc, ◌+◌, ◌*◌, ◌/◌, ltb}

-- The whole part of the square root of an n below 4 ^ k, by its binary digits: with r the root of n / 4, it is 2 r or 2 r + 1.
unfoldable pub root_of : ℕ → ℕ → ℕ
root_of zero n = 0
root_of (suc k) n =
    let r = root_of k (n / 4) in
    cond (ltb n ((2 * r + 1) * (2 * r + 1))) (2 * r) (2 * r + 1)

-- The whole number nearest to the root of n, below 4 ^ k. The root is above r + 1/2 just where n is above r × r + r, since n is whole; it is never r + 1/2 itself.
abbrev pub nearest_root : ℕ → ℕ → ℕ
nearest_root k n = let r = root_of k n in cond (ltb (r * r + r) n) (r + 1) r
