-- The tests of a place, as the code makes them.
use Rattle.std.specs.Prelude.{ℕ, suc, ◌+◌, Bool, true, false, not, ◌&&◌, ◌||◌, List, [], ◌∷◌, ◌++◌, length, Option, Some, None, option_map, if◌then◌else◌, is_some, codes, nat_eq, nat_lt}
use Rattle.std.specs.List.{list_any, starts_with}
use Rattle.std.specs.Option.{option_map_or}
use Rattle.sap_terms.specs.Named.{first_named}
use Rattle.sap_terms.specs.Reserved.{is_reserved}
use Rattle.sap_terms.specs.Same.{same_sort}
use Rattle.sap_terms.specs.Signature.{Sig, arity_of, same_bool}
use Rattle.sap_terms.specs.Tree.{trees_of}
use Rattle.sap_terms.specs.TermTests.{has_arity, are_over, any_has_destructor}
use Rattle.sap_terms.specs.Variables.{is_known}
use Rattle.sap_terms.specs.declared.fact.Fact.{Fact}
use Rattle.sap_terms.specs.declared.limits.TheConstants.{MOST_SCOPE_NAMES}
use Rattle.sap_terms.specs.declared.var.Sort.{Sort}
use Rattle.sap_terms.specs.declared.var.Sort.TheVariants.{Msg}
use Rattle.sap_terms.specs.declared.var.Var.{Var}
use Rattle.sap_process.specs.Heads.{terms_vars, head_terms, head_vars, binder, bound_as, patterns, stored_facts, shown_facts}
use Rattle.sap_process.specs.Sites.{var_names}
use Rattle.sap_process.specs.Flaws.{unbound, binder_of, scope_at}
use Rattle.sap_process.specs.Proc.{Proc}
use Rattle.sap_process.specs.declared.flaw.Flaw.{Flaw}
use Rattle.sap_process.specs.declared.flaw.Flaw.TheVariants.{BadFunction, ReservedVar, ReservedFact, FactClash, PatternDestructor, Unbound, Rebound, SortClash, ScopeFull}
use Rattle.sap_process.specs.declared.met.Noted.{Noted}
use Rattle.sap_process.specs.declared.met.Shape.{Shape}
use Rattle.sap_process.specs.declared.naming.Tested.{Tested}

-- the variable is a plain identifier that is a constant
abbrev pub is_constant : Sig → Var → Bool
is_constant g v = same_sort v.sort Msg && has_arity (arity_of g v.name) 0

abbrev pub binds_constant : Sig → Proc → Bool
binds_constant g p = option_map_or (is_constant g) (bound_as p) false

-- its name begins as those that the rules use themselves
abbrev pub is_reserved_var : Var → Bool
is_reserved_var v = starts_with nat_eq v.name (codes "sapic_")

abbrev pub is_reserved_fact : Fact → Bool
is_reserved_fact f = is_reserved f.name

-- what a fact has in common with each of its name: the number of its arguments and, where that counts, whether it is persistent
abbrev pub shape_of : Bool → Fact → Shape
shape_of both f = record { arity = length f.args; persistent = both && f.persistent }

-- the shapes of the first facts of their names
abbrev pub Shapes : Type 0
Shapes = List Noted

-- the shape of the first of this name
abbrev pub noted_shape : Shapes → List ℕ → Option Shape
noted_shape met n = option_map (λ (x : Noted). x.shape) (first_named (λ (x : Noted). x.name) met n)

abbrev pub is_shape : Shape → Shape → Bool
is_shape a b = nat_eq a.arity b.arity && same_bool a.persistent b.persistent

-- another shape is there
abbrev pub is_other_shape : Option Shape → Shape → Bool
is_other_shape None a = false
is_other_shape (Some b) a = not (is_shape b a)

-- the shape is noted, where none is noted for the name
abbrev pub noted : Shapes → List ℕ → Shape → Shapes
noted met n a = if is_some (noted_shape met n) then met else met ++ record { name = n; shape = a } ∷ []

-- those of these facts, one after another
abbrev pub noted_all : Bool → Shapes → List Fact → Shapes
noted_all both met [] = met
noted_all both met (f ∷ fs) = noted_all both (noted met f.name (shape_of both f)) fs

-- one of the facts has another shape than is noted for its name
abbrev pub has_clash : Bool → Shapes → List Fact → Bool
has_clash both met [] = false
has_clash both met (f ∷ fs) =
    is_other_shape (noted_shape met f.name) (shape_of both f) || has_clash both (noted met f.name (shape_of both f)) fs

abbrev pub has_items : {X : Type 0} → List X → Bool
has_items [] = false
has_items (x ∷ xs) = true

-- the binder names what is in scope already
abbrev pub rebinds : List Var → Proc → Bool
rebinds scope p = option_map_or (λ (v : Var). is_known (var_names scope) v.name) (binder p) false

abbrev pub is_other_sort : Option Sort → Sort → Bool
is_other_sort None s = false
is_other_sort (Some t) s = not (same_sort t s)

-- the variable has a sign that isn't the sort of its binder
abbrev pub has_other_sort : List Var → Var → Bool
has_other_sort scope v =
    not (same_sort v.sort Msg) && is_other_sort (option_map (λ (b : Var). b.sort) (binder_of scope v.name)) v.sort

-- the variable has the flaw, if it is one of a variable, where these are in scope
abbrev pub var_flawed : Flaw → List Var → Var → Bool
var_flawed ReservedVar scope = is_reserved_var
var_flawed Unbound scope = λ (v : Var). not (is_known (var_names scope) v.name)
var_flawed SortClash scope = has_other_sort scope
var_flawed _ scope = λ (v : Var). false

-- what is tested of a place before its head binds: where these are in scope, so many locks are set above, and a fact there
-- clashes or not
abbrev pub tested_at : Bool → List Var → ℕ → Proc → Tested
tested_at clash scope locks p = record {
  clash = clash;
  unbound = has_items (unbound scope p);
  rebound = rebinds scope p;
  full = nat_lt MOST_SCOPE_NAMES (length scope + locks);
}

-- the place has the flaw, by what was tested, where what its head binds is in scope too
abbrev pub is_told : Sig → Tested → List Var → Proc → Flaw → Bool
is_told g t scope p BadFunction = not (are_over g (trees_of (head_terms p))) || binds_constant g p
is_told g t scope p ReservedVar = list_any is_reserved_var (head_vars p)
is_told g t scope p ReservedFact = list_any is_reserved_fact (stored_facts p ++ shown_facts p)
is_told g t scope p FactClash = t.clash
is_told g t scope p PatternDestructor = any_has_destructor g (trees_of (patterns p))
is_told g t scope p Unbound = t.unbound
is_told g t scope p Rebound = t.rebound
is_told g t scope p SortClash = list_any (has_other_sort scope) (terms_vars (head_terms p))
is_told g t scope p ScopeFull = t.full

-- how many of these flaws stand before the first that the place has
abbrev pub free_of : Sig → Tested → List Var → Proc → List Flaw → ℕ
free_of g t scope p [] = 0
free_of g t scope p (w ∷ ws) = if is_told g t scope p w then 0 else suc (free_of g t scope p ws)

-- the place has the flaw, where these are in scope, so many locks are set above, and a fact there clashes or not
abbrev pub has_flaw : Sig → Flaw → Bool → List Var → ℕ → Proc → Bool
has_flaw g w clash scope locks p = is_told g (tested_at clash scope locks p) (scope_at scope p) p w

-- how many of these flaws stand before the first that it has
abbrev pub lacking : Sig → Bool → List Var → ℕ → Proc → List Flaw → ℕ
lacking g clash scope locks p ws = free_of g (tested_at clash scope locks p) (scope_at scope p) p ws
