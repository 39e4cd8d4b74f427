-- What a program counts: the lines of each kind, and of all, and how many of them agree.
use Rattle.std.specs.Prelude.{ℕ, ◌+◌, Bool, cond, ltb, slice_index_or, set, replicate}
use Rattle.replay.specs.declared.Counts.{Counts}
use Rattle.replay.specs.declared.Tally.{Tally}

abbrev pub no_tally : Tally
no_tally = record { agreed = 0; asked = 0 }

abbrev pub no_counts : Counts
no_counts = record { kinds = replicate 32 no_tally; all = no_tally }

-- a count stays at the largest u64 once it is there
abbrev pub counted_on : ℕ → ℕ
counted_on n = cond (ltb n 18446744073709551615) (n + 1) n

-- kinds from 31 on share the last slot
abbrev pub slot_of : ℕ → ℕ
slot_of kind = cond (ltb kind 31) kind 31

-- one line more, which agrees or does not
abbrev pub tallied : Tally → Bool → Tally
tallied t agrees = record { agreed = cond agrees (counted_on t.agreed) t.agreed; asked = counted_on t.asked }

-- what is written of a kind, and of the whole list
abbrev pub tally_of : Counts → ℕ → Tally
tally_of c kind = slice_index_or c.kinds (slot_of kind) no_tally

abbrev pub tally_of_all : Counts → Tally
tally_of_all c = c.all

-- one line more of this kind, which agrees or does not
abbrev pub counted : Counts → ℕ → Bool → Counts
counted c kind agrees =
    record {
      kinds = set c.kinds (slot_of kind) (tallied (tally_of c kind) agrees);
      all = tallied c.all agrees;
    }
