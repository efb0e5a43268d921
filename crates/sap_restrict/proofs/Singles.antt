-- Times with at most one fact that has a reserved name.
use Rattle.std.proofs.Common.{◌≡◌, List, [], ◌∷◌, true, Some, None, sym, subst, ap, ◌∙◌}
use Rattle.std.specs.Prelude.{All, Contains}
use Rattle.std.proofs.lemmas.List.Elements.{All-cons, All-contains, All-nil}
use Rattle.sap_restrict.proofs.Elements.{behind, first_of}
use Rattle.sap_restrict.proofs.Longer.{first_is, some_first}
use Rattle.sap_restrict.specs.Stands.{HasOneReserved}
use Rattle.sap_restrict.specs.code.Deeds.{IsOnlyReserved, reserved_in}
use Rattle.sap_terms.proofs.PlainLaws.Tests.{same_trees-refl, same_trees-sound}
use Rattle.sap_terms.specs.Same.{same_trees}
use Rattle.sap_terms.specs.Tree.{Tree, list_of, list_of-trees_of, trees_of}
use Rattle.sap_terms.specs.declared.fact.Fact.{Fact}

all_from : {X : Type 0} (P : X → Type 0) (xs : List X) → ((x : X) → Contains xs x → P x) → All P xs
all_from P [] h = All-nil P
all_from P (y ∷ xs) h = All-cons P y xs (h y (first_of y xs)) (all_from P xs (λ x c. h x (behind y xs x c)))

-- the others are like the first, or plain
pub one_from_all : (p : List Fact) (r : Fact) → All (IsOnlyReserved r) p → HasOneReserved p
one_from_all p r a = λ f h c d s t. All-contains (IsOnlyReserved r) p f a c s ∙ sym (All-contains (IsOnlyReserved r) p h a d t)

pub all_from_one : (p : List Fact) (r : Fact) → reserved_in p ≡ Some r → HasOneReserved p → All (IsOnlyReserved r) p
all_from_one p r e one = let i = first_is p r e in all_from (IsOnlyReserved r) p (λ x c s. one x r c i.among s i.reserved)

pub none_reserved : (p : List Fact) → reserved_in p ≡ None → HasOneReserved p
none_reserved p e = λ f h c d s t. let r = some_first p f c s in let q : Some r.0 ≡ None = sym r.1 ∙ e in absurd (cc)

pub same_args : (ts us : List Tree) → same_trees (trees_of ts) (trees_of us) ≡ true → ts ≡ us
same_args ts us h = sym (list_of-trees_of ts) ∙ ap list_of (same_trees-sound (trees_of ts) (trees_of us) h) ∙ list_of-trees_of us

pub args_same : (ts us : List Tree) → ts ≡ us → same_trees (trees_of ts) (trees_of us) ≡ true
args_same ts us e = subst (λ vs. same_trees (trees_of ts) (trees_of vs) ≡ true) e (same_trees-refl (trees_of ts))

pub ruleset same_laws = (same_args, args_same)

-- a fact is its name, its sign and its arguments
pub of_parts : (f h : Fact) → f.name ≡ h.name → f.persistent ≡ h.persistent → f.args ≡ h.args → f ≡ h
of_parts f h n p a = λ i. record { name = n i; persistent = p i; args = a i }

pub part_name : (f h : Fact) → f ≡ h → f.name ≡ h.name
part_name f h e = ap (λ (x : Fact). x.name) e

pub part_sign : (f h : Fact) → f ≡ h → f.persistent ≡ h.persistent
part_sign f h e = ap (λ (x : Fact). x.persistent) e

pub part_args : (f h : Fact) → f ≡ h → f.args ≡ h.args
part_args f h e = ap (λ (x : Fact). x.args) e

pub ruleset parts_laws = (of_parts, part_name, part_sign, part_args)
