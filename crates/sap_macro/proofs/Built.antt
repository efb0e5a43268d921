-- What is built behind names and uses.
use Rattle.std.proofs.Common.{◌≡◌, ◌<◌, ℕ, List, [], map, refl, sym, ap, ◌∙◌, arith}
use Rattle.std.specs.Option.{unwrap_or}
use Rattle.sap_terms.specs.Choice.{instance}
use Rattle.sap_terms.specs.NameMap.{value_at}
use Rattle.sap_terms.specs.Tree.{Tree, variable}
use Rattle.sap_process.specs.Proc.{nil}
use Rattle.sap_macro.specs.Expansion.{by_names, expanded, expanded_as, expansion, put, with_uses}
use Rattle.sap_macro.specs.NewNames.{renamed, taken_after}
use Rattle.sap_macro.specs.UpToNames.{named}
use Rattle.sap_macro.specs.Written.{Written, call, Definition}
use Rattle.sap_macro.specs.code.Entering.{ArePut, IsEntered, own_names_in}
use Rattle.sap_macro.specs.code.Standings.{choice_of, name_of, tree_or}
use Rattle.sap_macro.specs.Walked.{steps_in}
use Rattle.sap_macro.specs.code.Steps.{built, meaning_in, plain_of, IsResolved, IsUnknown}
use Rattle.sap_macro.specs.declared.standing.Standing.{Standing}

-- what is the same behind names without parameters is built the same
pub built_same : (ds : List Definition) (w v : Written) → with_uses (plain_of ds) w ≡ with_uses (plain_of ds) v
    → (s : Standing) (taken : List (List ℕ)) → built ds s w taken ≡ built ds s v taken
unfolding built
built_same ds w v h s taken = ap (λ u. expanded (meaning_in ds) (choice_of s) (name_of s) u taken) h

-- a name that nothing defines is `0`
pub built_unknown : (ds : List Definition) (f : List ℕ) (ts : List Tree) (s : Standing) (taken : List (List ℕ)) → IsUnknown ds f
    → built ds s (call f ts) taken ≡ expanded_as nil taken
unfolding built
built_unknown ds f ts s taken h =
    ap (λ u. expanded (meaning_in ds) (choice_of s) (name_of s) u taken) (h.plain ts) ∙ h.meaning (map (instance (choice_of s)) ts) taken

-- behind a use stands the body, with its own names
pub built_use : (ds : List Definition) (d : Definition) (ts : List Tree) (s inner : Standing) (taken : List (List ℕ)) → IsResolved ds d
    → ((us : List Tree) → plain_of ds d.name us ≡ call d.name us) → IsEntered ds d (map (instance (choice_of s)) ts) taken inner
    → built ds inner d.body (taken_after taken (own_names_in ds d)) ≡ built ds s (call d.name ts) taken
unfolding built
built_use ds d ts s inner taken r formed h =
    let body = with_uses (plain_of ds) d.body in
    let later = taken_after taken (own_names_in ds d) in
    (λ i. expanded (meaning_in ds) (h.choice i) (h.names i) body later)
    ∙ sym (r.meaning (map (instance (choice_of s)) ts) taken)
    ∙ sym (ap (λ u. expanded (meaning_in ds) (choice_of s) (name_of s) u taken) (formed ts))

-- the arguments and the new names stand for the names of the body
pub entered_is : (ds : List Definition) (d : Definition) (args : List Tree) (taken : List (List ℕ)) (s : Standing) → ArePut d.params args s.terms
    → ((x : List ℕ) → name_of s x ≡ renamed taken (own_names_in ds d) x) → IsEntered ds d args taken s
entered_is ds d args taken s h k = record {
  choice = λ i v. (h.put (by_names (name_of s)) v ∙ (λ j. put d.params args (by_names (λ x. k x j)) v)) i;
  names = λ i x. k x i;
}

-- nothing stands for names at first
pub built_first : (ds : List Definition) (s : Standing) (w : Written) (taken : List (List ℕ)) → s.terms ≡ [] → s.names ≡ []
    → built ds s w taken ≡ expansion ds taken w
unfolding built
built_first ds s w taken h k =
    (λ i. expanded (meaning_in ds) (λ v. tree_or (value_at (h i) v.name) (variable (named (unwrap_or (value_at (k i) v.name) v.name) v.sort)))
    (λ x. unwrap_or (value_at (k i) x) x) (with_uses (plain_of ds) w) taken)

-- a body has fewer steps than the use of its definition
pub steps_use : (ds : List Definition) (d : Definition) (ts : List Tree) → IsResolved ds d → steps_in ds d.body < steps_in ds (call d.name ts)
unfolding steps_in
steps_use ds d ts r = let same = r.cost in omega (arith, same)

-- however many arguments there are
pub steps_call : (ds : List Definition) (f : List ℕ) (ts us : List Tree) → steps_in ds (call f ts) ≡ steps_in ds (call f us)
unfolding steps_in
steps_call ds f ts us = refl
