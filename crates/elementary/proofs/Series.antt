-- A series taken through the numbers of a list, as a loop goes through them: one at a turn, and none are left at the end.
use Rattle.std.proofs.Common.{◌≡◌, ℕ, ◌+◌, ◌<◌, ◌≤◌, List, [], ◌∷◌, length, get_or, drop, add-one, drop-cons}
use Rattle.std.proofs.lemmas.List.{drop_all}
use lib.Ieee.{Float}

abbrev pub through_floats : (Float → Float → Float) → Float → List Float → Float
through_floats step p [] = p
through_floats step p (k ∷ ks) = through_floats step (step p k) ks

pub next : (step : Float → Float → Float) (p : Float) (ks : List Float) (i : ℕ) (d : Float) → i < length ks
    → through_floats step p (drop i ks) ≡ through_floats step (step p (get_or ks i d)) (drop (i + 1) ks)
next step p ks i d h = rw (add-one, drop-cons ks i d h)

pub at_end : (step : Float → Float → Float) (p : Float) (ks : List Float) (i : ℕ) → length ks ≤ i → through_floats step p (drop i ks) ≡ p
at_end step p ks i h = rw (drop_all i ks h)
