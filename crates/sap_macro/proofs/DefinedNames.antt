-- Of some names, those that are defined: what is closed among the names is closed among these.
use Rattle.std.proofs.Common.{◌≡◌, ℕ, true, List, [], ◌∷◌, sym, subst, ⊎_elim}
use Rattle.std.proofs.lemmas.Bool.{false≢true}
use Rattle.std.specs.Prelude.{if◌then◌else◌}
use Rattle.sap_terms.specs.Variables.{is_known}
use Rattle.sap_terms.proofs.PlainLaws.Known.{clash, in_head, in_tail, in_cases}
use Rattle.sap_macro.specs.Indexed.{defined}
use Rattle.sap_macro.specs.Instances.{AreClosedAmong}
use Rattle.sap_macro.specs.Order.{AreInOrder, UsesOnly}
use Rattle.sap_macro.specs.Written.{Written, nil, call, parallel, replicated, act, test, lookup, Definition}
use Rattle.sap_macro.proofs.Uses.{either_way}
use Rattle.sap_macro.proofs.WrittenHeads.{uses_more}

-- the names that are among others too
abbrev pub in_both : List (List ℕ) → List (List ℕ) → List (List ℕ)
in_both [] others = []
in_both (x ∷ names) others = if is_known others x then (x ∷ in_both names others) else in_both names others

pub is_in_both : (names others : List (List ℕ)) (f : List ℕ) → is_known names f ≡ true → is_known others f ≡ true → is_known (in_both names others) f ≡ true
is_in_both [] others f h k = absurd (false≢true h)
is_in_both (x ∷ names) others f h k =
    either_way (λ ns. is_known ns f ≡ true) (is_known others x) (x ∷ in_both names others) (in_both names others)
    (λ e.
    ⊎_elim (λ s. subst (λ z. is_known (x ∷ in_both names others) z ≡ true) s (in_head x (in_both names others)))
    (λ l. in_tail f x (in_both names others) (is_in_both names others f l k)) (in_cases f x names h))
    (λ e.
    ⊎_elim (λ s. clash (is_known others x) (subst (λ z. is_known others z ≡ true) (sym s) k) e) (λ l. is_in_both names others f l k) (in_cases f x names h))

pub among_first : (names others : List (List ℕ)) (f : List ℕ) → is_known (in_both names others) f ≡ true → is_known names f ≡ true
among_first [] others f = λ h. absurd (false≢true h)
among_first (x ∷ names) others f =
    either_way (λ ns. is_known ns f ≡ true → is_known (x ∷ names) f ≡ true) (is_known others x) (x ∷ in_both names others) (in_both names others)
    (λ e h.
    ⊎_elim (λ s. subst (λ z. is_known (x ∷ names) z ≡ true) s (in_head x names)) (λ l. in_tail f x names (among_first names others f l))
    (in_cases f x (in_both names others) h))
    (λ e h. in_tail f x names (among_first names others f h))

pub among_second : (names others : List (List ℕ)) (f : List ℕ) → is_known (in_both names others) f ≡ true → is_known others f ≡ true
among_second [] others f = λ h. absurd (false≢true h)
among_second (x ∷ names) others f =
    either_way (λ ns. is_known ns f ≡ true → is_known others f ≡ true) (is_known others x) (x ∷ in_both names others) (in_both names others)
    (λ e h. ⊎_elim (λ s. subst (λ z. is_known others z ≡ true) s e) (λ l. among_second names others f l) (in_cases f x (in_both names others) h))
    (λ e h. among_second names others f h)

pub uses_both : (names others : List (List ℕ)) (w : Written) → UsesOnly names w → UsesOnly others w → UsesOnly (in_both names others) w
uses_both names others nil h k = tt
uses_both names others (call f ts) h k = is_in_both names others f h k
uses_both names others (parallel p q) h k = (uses_both names others p h.0 k.0, uses_both names others q h.1 k.1)
uses_both names others (replicated p) h k = uses_both names others p h k
uses_both names others (act a p) h k = uses_both names others p h k
uses_both names others (test t u p q) h k = (uses_both names others p h.0 k.0, uses_both names others q h.1 k.1)
uses_both names others (lookup t x p q) h k = (uses_both names others p h.0 k.0, uses_both names others q h.1 k.1)

closed_both : (names others : List (List ℕ)) (ds : List Definition) (known : List (List ℕ)) → AreInOrder known ds → ((f : List ℕ) → is_known known f ≡ true → is_known others f ≡ true)
    → ((f : List ℕ) → is_known (defined ds) f ≡ true → is_known others f ≡ true) → AreClosedAmong names ds → AreClosedAmong (in_both names others) ds
closed_both names others [] known h before there all = tt
closed_both names others (d ∷ ds) known h before there all = (
  λ k.
      let own = all.0 (among_first names others d.name k) in
      (own.0, uses_both names others d.body own.1 (uses_more known others before d.body h.1.0)),
  closed_both names others ds (d.name ∷ known) h.1.1
      (λ f k. ⊎_elim (λ s. subst (λ z. is_known others z ≡ true) s (there d.name (in_head d.name (defined ds)))) (λ l. before f l) (in_cases f d.name known k))
      (λ f k. there f (in_tail f d.name (defined ds) k)) all.1,
)

-- definitions in order use names alone that are defined
pub closed_among_defined : (names : List (List ℕ)) (ds : List Definition) → AreInOrder [] ds → AreClosedAmong names ds → AreClosedAmong (in_both names (defined ds)) ds
closed_among_defined names ds h all = closed_both names (defined ds) ds [] h (λ f k. absurd (false≢true k)) (λ f k. k) all
