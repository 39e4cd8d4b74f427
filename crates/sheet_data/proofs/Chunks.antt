-- What stands in a list cut into chunks: element j of chunk i is element n × i + j of the list.
use Rattle.std.specs.Prelude.{List, []}
use Rattle.std.specs.Simd.{first_chunks}
use Rattle.std.proofs.lemmas.List.{get_or-take, get_or-drop}
use mathlib.Core.Path.{◌≡◌, ap, ◌∙◌}
use Prim.Native.Nat.{ℕ, zero, suc, ◌+◌, ◌*◌, ◌<◌}
use native.Mathlib.Omega.{arith}
use lib.ListN.{get_or, drop}

pub in_chunk : {X : Type 0} (n k i j : ℕ) (xs : List X) (d : X) → i < k → j < n → get_or (get_or (first_chunks n k xs) i []) j d ≡ get_or xs (n * i + j) d
in_chunk n zero i j xs d h l = absurd (omega arith)
in_chunk n (suc k) zero j xs d h l =
    let z : j ≡ n * 0 + j = omega arith in
    get_or-take n xs j d l ∙ ap (λ (m : ℕ). get_or xs m d) z
in_chunk n (suc k) (suc i) j xs d h l =
    let z : n + (n * i + j) ≡ n * suc i + j = omega arith in
    in_chunk n k i j (drop n xs) d (omega arith) l ∙ get_or-drop n xs (n * i + j) d ∙ ap (λ (m : ℕ). get_or xs m d) z
