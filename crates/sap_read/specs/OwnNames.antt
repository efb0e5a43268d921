-- Restrictions and lemmas that have names of their own.
use Rattle.std.specs.Prelude.{◌≡◌, ℕ, false, List, ◌++◌, map, All}
use Rattle.std.specs.List.{IsDistinct}
use Rattle.std.specs.Str.{bytes_eq}
use Rattle.sap_formula.specs.Form.{RestrictionForm, LemmaForm}
use Rattle.sap_restrict.specs.Restrictions.{is_generated}
use Rattle.sap_read.specs.Files.{FileContent}

-- the names of restrictions, and then those of lemmas
abbrev pub statement_names : List RestrictionForm → List LemmaForm → List (List ℕ)
statement_names rs ls = map (λ (r : RestrictionForm). r.name) rs ++ map (λ (l : LemmaForm). l.name) ls

-- no two of them have one name
abbrev pub HaveOwnNames : List RestrictionForm → List LemmaForm → Type 0
HaveOwnNames rs ls = IsDistinct bytes_eq (statement_names rs ls)

-- so it is in the file, and none of the seven restrictions has one of these names
pub record IsNamedApart (f : FileContent) : Type 0 where
  pub distinct : HaveOwnNames f.restrictions f.lemmas
  pub own : All (λ (n : List ℕ). is_generated n ≡ false) (statement_names f.restrictions f.lemmas)
