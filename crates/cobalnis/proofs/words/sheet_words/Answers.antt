-- `cobalnis::words::sheet_words` meets its contract: the settings, the nozzle diameter, the number of parts and the parts, put one after the other, are all the words.
use mathlib.Core.Path.{◌≡◌, refl, sym, ap, ◌∙◌}
use native.Mathlib.Omega.{arith}
use Prim.Native.Nat.{ℕ, ◌+◌}
use mathlib.Core.List.{List, ◌∷◌, ◌++◌}
use lib.ListN.{length, replicate, length-append}
use lib.Seq.{sets}
use lib.Ieee.{to_bits, binary64}
use Rattle.sheet_data.specs.declared.Sheet.{Sheet}
use Rattle.sheet_data.specs.Layout.{most_columns, most_finishes, most_parts}
use Rattle.std.proofs.Common.{rules}
use Rattle.cobalnis.specs.Words.{part_word_count, settings_word_count, sheet_word_count, spread, float_words, part_words, settings_words, sheet_words}
use Rattle.sheet_text.proofs.Puts.{sets_append}
use Rattle.cobalnis.proofs.Turns.{spread_long, floats_long, sets_all}
use Rattle.cobalnis.proofs.words.sheet_words.Goals as goal
use Rattle.cobalnis.proofs.words.sheet_words.Goals.{Start}

-- the arrays of a sheet hold 4 roughnesses, 32 Machs, 32 Reynolds numbers and 16 parts
record Long (sheet : Sheet) : Type 0 where
  roughnesses : length sheet.settings.roughnesses ≡ most_finishes
  machs : length sheet.settings.machs ≡ most_columns
  reynolds : length sheet.settings.reynolds ≡ most_columns
  parts : length sheet.design.parts ≡ most_parts

long : (s : Start) → Long s.args.sheet
long s = record { roughnesses = search rules; machs = search rules; reynolds = search rules; parts = search rules }

pub returns : goal.returns
unfolding sheet_words
returns c =
    let a = c.args.sheet in
    let rest : ℕ → List ℕ = λ nozzle. nozzle ∷ a.design.count ∷ spread part_words a.design.parts in
    let tail = rest (to_bits binary64 a.nozzle_diameter) in
    let zeros : List ℕ = replicate sheet_word_count 0 in
    let k = floats_long a.settings.roughnesses in
    let m = floats_long a.settings.machs in
    let r = floats_long a.settings.reynolds in
    let p = spread_long part_words part_word_count (λ x. refl) a.design.parts in
    let i = length-append (spread float_words a.settings.roughnesses) (to_bits binary64 a.settings.body_fineness ∷ a.settings.count ∷ (spread float_words a.settings.machs ++ spread float_words a.settings.reynolds)) in
    let j = length-append (spread float_words a.settings.machs) (spread float_words a.settings.reynolds) in
    let l = long (goal.at.returns c).Start in
    let e : settings_word_count ≡ 0 + length (settings_words a.settings) = omega (arith, i, k, m, r, j, l.roughnesses, l.machs, l.reynolds) in
    let whole = length-append (settings_words a.settings) tail in
    c.put_parts.ensures
    ∙ ap (λ (us : List ℕ). sets us settings_word_count (rest c.to_bits.result)) c.put_settings.ensures
    ∙ ap (λ (n : ℕ). sets (sets zeros 0 (settings_words a.settings)) settings_word_count (rest n)) c.to_bits.ensures
    ∙ ap (λ (k : ℕ). sets (sets zeros 0 (settings_words a.settings)) k tail) e
    ∙ sym (sets_append (settings_words a.settings) tail zeros 0)
    ∙ sets_all (settings_words a.settings ++ tail) zeros (omega (arith, e, p, l.parts, whole))
