-- Definitions that a process doesn't come to use mean nothing to it, so they needn't be closed.
use Rattle.std.proofs.Common.{◌≡◌, ℕ, true, false, List, [], ◌∷◌, map, refl, sym, ap, ◌∙◌, subst}
use Rattle.std.specs.Prelude.{if◌then◌else◌}
use Rattle.std.specs.Str.{bytes_eq}
use Rattle.sap_terms.specs.Choice.{Choice, instance}
use Rattle.sap_terms.specs.Ground.{AreGround}
use Rattle.sap_terms.specs.Tree.{Tree, trees_of}
use Rattle.sap_terms.specs.Variables.{is_known}
use Rattle.sap_process.specs.Instance.{process_instance}
use Rattle.sap_macro.specs.Expansion.{Expanded, Meaning, by_names, entered, expanded, meaning_after, meaning_of, no_meaning, own_names, put, same_name, unchanged, with_definition}
use Rattle.sap_macro.specs.Instances.{written_instance, instance_by, IsClosed, AreClosedAmong, Keeps, AreTaken}
use Rattle.sap_macro.specs.NewNames.{renamed, taken_after}
use Rattle.sap_macro.specs.Order.{UsesOnly}
use Rattle.sap_macro.specs.UpToNames.{AreAlike}
use Rattle.sap_macro.specs.Written.{Written, nil, call, parallel, replicated, act, test, lookup, Definition}
use Rattle.sap_terms.proofs.PlainLaws.Known.{clash, apart}
use Rattle.sap_macro.proofs.Resolving.{expanded_agree}
use Rattle.sap_macro.proofs.Uses.{AreClosed, either_way, expansions_are_one, uses_are_instances}

-- the definitions of these names
abbrev pub of_names : List (List ℕ) → List Definition → List Definition
of_names names [] = []
of_names names (d ∷ ds) = if is_known names d.name then (d ∷ of_names names ds) else of_names names ds

pub closed_of : (names : List (List ℕ)) (ds : List Definition) → AreClosedAmong names ds → AreClosed (of_names names ds)
closed_of names [] h = tt
closed_of names (d ∷ ds) h =
    either_way AreClosed (is_known names d.name) (d ∷ of_names names ds) (of_names names ds) (λ e. ((h.0 e).0, closed_of names ds h.1)) (λ e. closed_of names ds h.1)

-- what names mean by all definitions, and by those of these names
abbrev pub Agree : List (List ℕ) → Meaning → Meaning → Type 0
Agree names m n = (f : List ℕ) (ts : List Tree) (taken : List (List ℕ)) → is_known names f ≡ true → m f ts taken ≡ n f ts taken

pub entered_agree : (names : List (List ℕ)) (m n : Meaning) (d : Definition) → UsesOnly names d.body → Agree names m n → (ts : List Tree) (taken : List (List ℕ))
    → entered m d ts taken ≡ entered n d ts taken
entered_agree names m n d h e ts taken =
    let own = own_names d in
    expanded_agree names d.body m n h e (put d.params ts (by_names (renamed taken own))) (renamed taken own) (taken_after taken own)

with_both : (names : List (List ℕ)) (m n : Meaning) (d : Definition) → UsesOnly names d.body → Agree names m n → Agree names (with_definition m d) (with_definition n d)
with_both names m n d h e f ts taken k = λ i. if bytes_eq d.name f then entered_agree names m n d h e ts taken i else e f ts taken k i

without_other : (names : List (List ℕ)) (m n : Meaning) (d : Definition) → is_known names d.name ≡ false → Agree names m n → Agree names (with_definition m d) n
without_other names m n d h e f ts taken k =
    ap (λ b. if b then entered m d ts taken else m f ts taken) (apart d.name f (λ same. clash (is_known names f) k (sym (ap (is_known names) same) ∙ h)))
    ∙ e f ts taken k

pub agree_after : (ds : List Definition) (names : List (List ℕ)) (m n : Meaning) → AreClosedAmong names ds → Agree names m n
    → Agree names (meaning_after m ds) (meaning_after n (of_names names ds))
agree_after [] names m n h e = e
agree_after (d ∷ ds) names m n h e =
    either_way (λ (xs : List Definition). Agree names (meaning_after (with_definition m d) ds) (meaning_after n xs)) (is_known names d.name) (d ∷ of_names names ds) (of_names names ds)
    (λ s. agree_after ds names (with_definition m d) (with_definition n d) h.1 (with_both names m n d (h.0 s).1 e))
    (λ s. agree_after ds names (with_definition m d) n h.1 (without_other names m n d s e))

-- an instance uses what is used
pub instance_uses : (names : List (List ℕ)) (σ : Choice) (w : Written) → UsesOnly names w → UsesOnly names (written_instance σ w)
instance_uses names σ nil h = tt
instance_uses names σ (call f ts) h = h
instance_uses names σ (parallel p q) h = (instance_uses names σ p h.0, instance_uses names σ q h.1)
instance_uses names σ (replicated p) h = instance_uses names σ p h
instance_uses names σ (act a p) h = instance_uses names σ p h
instance_uses names σ (test t u p q) h = (instance_uses names σ p h.0, instance_uses names σ q h.1)
instance_uses names σ (lookup t x p q) h = (instance_uses names σ p h.0, instance_uses names σ q h.1)

pub uses_among_are_instances : (names : List (List ℕ)) (ds : List Definition) (d : Definition) (ts : List Tree) (σ : Choice) (taken other : List (List ℕ)) → AreClosedAmong names ds
    → UsesOnly names d.body → IsClosed d.params d.body → AreGround (trees_of (map (instance σ) ts)) → Keeps σ taken → AreTaken other d.params d.body
    → AreAlike [] (process_instance σ (entered (meaning_of ds) d ts taken).process)
    (expanded (meaning_of ds) unchanged same_name (instance_by d (map (instance σ) ts)) other).process
uses_among_are_instances names ds d ts σ taken other all uses closed g k o =
    let es = of_names names ds in
    let us = map (instance σ) ts in
    let agree = agree_after ds names no_meaning no_meaning all (λ f xs z i. refl) in
    let left = entered_agree names (meaning_of ds) (meaning_of es) d uses agree ts taken in
    let right =
    expanded_agree names (instance_by d us) (meaning_of ds) (meaning_of es) (instance_uses names (put d.params us unchanged) d.body uses) agree unchanged same_name other in
    subst (λ (e : Expanded). AreAlike [] (process_instance σ e.process) (expanded (meaning_of ds) unchanged same_name (instance_by d us) other).process) (sym left)
    (subst (λ (e : Expanded). AreAlike [] (process_instance σ (entered (meaning_of es) d ts taken).process) e.process) (sym right)
    (uses_are_instances es d ts σ taken other (closed_of names ds all) closed g k o))

pub expansions_among_are_one : (names : List (List ℕ)) (ds : List Definition) (p : Written) (taken other : List (List ℕ)) → AreClosedAmong names ds → UsesOnly names p → IsClosed [] p
    → AreTaken taken [] p → AreTaken other [] p
    → AreAlike [] (expanded (meaning_of ds) unchanged same_name p taken).process (expanded (meaning_of ds) unchanged same_name p other).process
expansions_among_are_one names ds p taken other all uses closed h k =
    let es = of_names names ds in
    let agree = agree_after ds names no_meaning no_meaning all (λ f xs z i. refl) in
    let left = expanded_agree names p (meaning_of ds) (meaning_of es) uses agree unchanged same_name taken in
    let right = expanded_agree names p (meaning_of ds) (meaning_of es) uses agree unchanged same_name other in
    subst (λ (e : Expanded). AreAlike [] e.process (expanded (meaning_of ds) unchanged same_name p other).process) (sym left)
    (subst (λ (e : Expanded). AreAlike [] (expanded (meaning_of es) unchanged same_name p taken).process e.process) (sym right)
    (expansions_are_one es p taken other (closed_of names ds all) closed h k))
