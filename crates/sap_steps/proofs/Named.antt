-- Rules, entries and bindings that a line names.
use Rattle.std.proofs.Common.{◌≡◌, ℕ, zero, suc, Bool, true, false, List, [], ◌∷◌, length, map, Some, None, slice_get, if◌then◌else◌, refl, ap, sym, ◌∙◌}
use Rattle.std.specs.List.{All, Contains}
use Rattle.std.specs.Str.{bytes_eq}
use Rattle.std.proofs.lemmas.Slice.Eq.{bytes_eq-Decides}
use Rattle.std.proofs.lemmas.List.Elements.{All-nil, All-cons, All-head, All-tail}
use Rattle.std.proofs.lemmas.Option.{slice_get-get_or, slice_get_within, get_or_from_slice_get}
use Rattle.sap_terms.specs.Choice.{Choice}
use Rattle.sap_terms.specs.Tree.{Tree}
use Rattle.sap_terms.specs.View.{term, tree-term}
use Rattle.sap_terms.specs.declared.binding.Binding.{Binding}
use Rattle.sap_terms.specs.declared.var.Var.{Var}
use Rattle.sap_rewrite.specs.Match.{Agrees, bound_vars}
use Rattle.sap_rule.specs.Named.{rule_named, HaveNamesOfTheirOwn}
use Rattle.sap_rule.specs.declared.rule.Rule.{Rule}

pub Contains-get : {X : Type 0} (xs : List X) (x : X) (k : ℕ) → slice_get xs k ≡ Some x → Contains xs x
Contains-get xs x k e = (k, slice_get_within xs k x e, get_or_from_slice_get xs k x x e)

pub get-Contains : {X : Type 0} (xs : List X) (x : X) → Contains xs x → (k : ℕ) × (slice_get xs k ≡ Some x)
get-Contains xs x (k, lt, e) = (k, slice_get-get_or xs k x lt ∙ ap Some e)

named_head : (x : Rule) (xs : List Rule) (r : Rule) (b : Bool) → bytes_eq x.name r.name ≡ b → rule_named xs x.name ≡ None → rule_named xs r.name ≡ Some r → rule_named (x ∷ xs) r.name ≡ Some r
named_head x xs r true p own later =
    let same : x.name ≡ r.name = (bytes_eq-Decides x.name r.name).0 p in
    let gone : rule_named xs r.name ≡ None = rw same at own in
    cc
named_head x xs r false p own later = rw p later

named_at : (rs : List Rule) (r : Rule) (k : ℕ) → HaveNamesOfTheirOwn rs → slice_get rs k ≡ Some r → rule_named rs r.name ≡ Some r
named_at [] r k own e = cc
named_at (x ∷ xs) r zero own e =
    let same : x ≡ r = cc in
    let passes : bytes_eq x.name r.name ≡ true = (bytes_eq-Decides x.name r.name).1 (ap (λ (y : Rule). y.name) same) in
    rw passes e
named_at (x ∷ xs) r (suc k) own e = named_head x xs r (bytes_eq x.name r.name) refl own.0 (named_at xs r k own.1 e)

pub rule_named-Contains : (rs : List Rule) (r : Rule) → HaveNamesOfTheirOwn rs → Contains rs r → rule_named rs r.name ≡ Some r
rule_named-Contains rs r own h = let at = get-Contains rs r h in named_at rs r at.0 own at.1

pub Contains-rule_named : (rs : List Rule) (r : Rule) (n : List ℕ) → rule_named rs n ≡ Some r → (k : ℕ) × (slice_get rs k ≡ Some r)
Contains-rule_named [] r n e = cc
Contains-rule_named (x ∷ xs) r n e = by (bytes_eq x.name n) e (Contains-rule_named xs r n) where
  by : (b : Bool) → (if b then Some x else rule_named xs n) ≡ Some r → (rule_named xs n ≡ Some r → (k : ℕ) × (slice_get xs k ≡ Some r)) → (k : ℕ) × (slice_get (x ∷ xs) k ≡ Some r)
  by true e later = (zero, e)
  by false e later = let at = later e in (suc at.0, at.1)

-- numbers at which the terms stand
pub numbers_of : (known ts : List Tree) → All (Contains known) ts → (ks : List ℕ) × (map (slice_get known) ks ≡ map Some ts) × (length ks ≡ length ts)
numbers_of known [] h = ([], refl, refl)
numbers_of known (t ∷ ts) h =
    let here = get-Contains known t (All-head (Contains known) t ts h) in
    let rest = numbers_of known ts (All-tail (Contains known) t ts h) in
    (here.0 ∷ rest.0, (λ i. here.1 i ∷ rest.1 i), ap suc rest.2)

pub Contains-numbers : (known : List Tree) (ks : List ℕ) (ts : List Tree) → map (slice_get known) ks ≡ map Some ts → All (Contains known) ts × (length ks ≡ length ts)
Contains-numbers known [] [] e = (All-nil (Contains known), refl)
Contains-numbers known [] (t ∷ ts) e = cc
Contains-numbers known (k ∷ ks) [] e = cc
Contains-numbers known (k ∷ ks) (t ∷ ts) e =
    let here : slice_get known k ≡ Some t = cc in
    let later : map (slice_get known) ks ≡ map Some ts = cc in
    let rest = Contains-numbers known ks ts later in
    (All-cons (Contains known) t ts (Contains-get known t k here) rest.0, ap suc rest.1)

-- the variables, bound to what the choice gives them
abbrev pub bindings_of : Choice → List Var → List Binding
bindings_of σ [] = []
bindings_of σ (v ∷ vs) = record { var = v; term = term (σ v) } ∷ bindings_of σ vs

pub bound_vars-bindings_of : (σ : Choice) (vs : List Var) → bound_vars (bindings_of σ vs) ≡ vs
bound_vars-bindings_of σ [] = refl
bound_vars-bindings_of σ (v ∷ vs) = ap (λ ws. v ∷ ws) (bound_vars-bindings_of σ vs)

pub Agrees-bindings_of : (σ : Choice) (vs : List Var) → Agrees (bindings_of σ vs) σ
Agrees-bindings_of σ [] = tt
Agrees-bindings_of σ (v ∷ vs) = (sym (tree-term (σ v)), Agrees-bindings_of σ vs)
