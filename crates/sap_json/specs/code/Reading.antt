-- What the parts of a value are read as.
use Rattle.std.specs.Prelude.{◌≡◌, ◌&&◌, ℕ, codes, if◌then◌else◌, List, [], ◌∷◌, Option, Some, None, option_map, option_and_then}
use Rattle.std.specs.Str.{bytes_eq}
use Rattle.serde_json.specs.Data.{Data, null, boolean, string, array, object, Items, no_items, item, Members, no_members, member}
use Rattle.serde_json.specs.Data as datum
use Rattle.serde_json.specs.Find.{as_str, as_object}
use Rattle.serde_json.specs.View.{items_of}
use Rattle.sap_terms.specs.declared.binding.Binding.{Binding}
use Rattle.sap_terms.specs.View.{tree}
use Rattle.sap_run_lines.specs.RunTerms.{IsRunName}
use Rattle.sap_run_lines.specs.LineWords.{number, fresh_name, public_name}
use Rattle.sap_run_lines.specs.StepLines.{bound_word}
use Rattle.sap_run_lines.specs.WholeWords.{IsRunVariable, IsWholeTerm}
use Rattle.sap_json.specs.Arrays.{AreEach, IsWordData}

-- ---- what is taken out of a value

-- the items side by side
abbrev pub list_of : Items → List Data
list_of no_items = []
list_of (item d is) = d ∷ list_of is

-- those of an array
abbrev pub list_in : Data → Option (List Data)
list_in null = None
list_in (boolean b) = None
list_in (datum.number n) = None
list_in (string s) = None
list_in (array is) = Some (list_of is)
list_in (object ms) = None

-- both
abbrev pub both : {A B : Type 0} → Option A → Option B → Option (A × B)
both None o = None
both (Some x) None = None
both (Some x) (Some y) = Some (x, y)

-- two strings
abbrev pub pair_of : List Data → Option (List ℕ × List ℕ)
pair_of [] = None
pair_of (d ∷ []) = None
pair_of (d ∷ e ∷ []) = both (as_str d) (as_str e)
pair_of (d ∷ e ∷ f ∷ ds) = None

-- the strings of an array of two
abbrev pub pair_in : Data → Option (List ℕ × List ℕ)
pair_in d = option_and_then pair_of (list_in d)

-- a string, and what stands behind it
abbrev pub first_of : List Data → Option (List ℕ × List Data)
first_of [] = None
first_of (d ∷ ds) = option_map (λ z. (z, ds)) (as_str d)

-- the string that an array begins with, and its further items
abbrev pub first_in : Data → Option (List ℕ × List Data)
first_in d = option_and_then first_of (list_in d)

-- what stands under `kind` and under `steps`, where nothing else does
abbrev pub members_in : Members → Option (Data × Data)
members_in no_members = None
members_in (member k d no_members) = None
members_in (member k d (member l e no_members)) = if bytes_eq k (codes "kind") && bytes_eq l (codes "steps") then Some (d, e) else None
members_in (member k d (member l e (member m f ms))) = None

-- a string and the items of an array
abbrev pub parts_of : Data × Data → Option (List ℕ × List Data)
parts_of p = both (as_str p.0) (list_in p.1)

-- the kind and the items of a run
abbrev pub run_in : Data → Option (List ℕ × List Data)
run_in d = option_and_then parts_of (option_and_then members_in (as_object d))

-- ---- which words it is

-- a number; a fresh name; a public name; a name; a binding
abbrev pub IsNumberData : ℕ → Data → Type 0
IsNumberData n d = IsWordData (number n) d

abbrev pub IsFreshData : ℕ → Data → Type 0
IsFreshData n d = IsWordData (fresh_name n) d

abbrev pub IsPublicData : List ℕ → Data → Type 0
IsPublicData s d = IsWordData (public_name s) d

abbrev pub IsNameData : List ℕ → Data → Type 0
IsNameData x d = IsRunName x × (d ≡ string x)

abbrev pub IsBindingData : Binding → Data → Type 0
IsBindingData b d = IsWordData (bound_word b) d

-- these two strings are the variable and the term of a binding
abbrev pub IsBindingOf : Binding → List ℕ × List ℕ → Type 0
IsBindingOf b p = IsRunVariable b.var p.0 × IsWholeTerm (tree b.term) p.1

-- an array of these things
abbrev pub IsListOf : {A : Type 0} → (A → Data → Type 0) → List A → Data → Type 0
IsListOf Is xs d = (ds : List Data) × (d ≡ array (items_of ds)) × AreEach Is xs ds

-- two arrays: of numbers, and of bindings
abbrev pub AreUses : List ℕ × List Binding → Data × Data → Type 0
AreUses u p = IsListOf IsNumberData u.0 p.0 × IsListOf IsBindingData u.1 p.1
