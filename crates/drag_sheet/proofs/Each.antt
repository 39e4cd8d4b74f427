-- The loop of `each_cell`, and the cells that it makes as a table.
use Rattle.std.specs.Prelude.{◌≡◌, List, ℕ, ◌≤◌, ◌<◌, length, get_or}
use Rattle.sheet_data.specs.Tables.{tab, tab_of}
use Rattle.drag_sheet.specs.Writing.{EachMade}

module _ {A B : Type 0} where
  -- the first i cells are made anew
  pub record EachSome (made : A → B → A → Type 0) (list : List B) (old new : List A) (i : ℕ) : Type 0 where
    pub long : length new ≡ length old
    pub done : (d : A) (e : B) (k : ℕ) → k < i → made (get_or old k d) (get_or list k e) (get_or new k d)
    pub left : (d : A) (k : ℕ) → i ≤ k → get_or new k d ≡ get_or old k d

  -- cells that can be made in one way alone are a table. The functions over `each_cell` cite it in an answer: named in the attribute it closes none of them
  pub each_tab : {made : A → B → A → Type 0} {list : List B} {old new : List A} {f : ℕ → A} (d : A) (e : B) → ((k : ℕ) (r : A) → made (get_or old k d) (get_or list k e) r → r ≡ f k)
      → EachMade made list old new → new ≡ tab (length old) f
  each_tab {old = old} {new = new} {f = f} d e only E = tab_of d (length old) f new E.long (λ k h. only k _ (E.at d e k h))
