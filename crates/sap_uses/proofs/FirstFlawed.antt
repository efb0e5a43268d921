-- The first definition that is flawed.
use Rattle.std.proofs.Common.{◌≡◌, ◌<◌, ◌≤◌, ℕ, ◌+◌, Bool, true, false, List, [], ◌∷◌, Option, Some, None, length, map, refl, sym, ap, ◌∙◌, subst, ⊎_elim, arith}
use Rattle.std.proofs.lemmas.Bool.{and_cases, and_parts, cases_lt, false≢true, ltb-false}
use Rattle.std.proofs.lemmas.Option.{slice_get-map, slice_get_within}
use Rattle.std.specs.List.{list_any}
use Rattle.std.specs.Option.{IfNone, IfSome, option_map}
use Rattle.std.specs.Prelude.{◌&&◌, Contains, nat_lt, slice_get}
use Rattle.std.specs.Str.{bytes_eq}
use Rattle.sap_terms.specs.Signature.{Sig}
use Rattle.sap_terms.specs.Tree.{Tree}
use Rattle.sap_terms.proofs.PlainLaws.Items.{contains_got}
use Rattle.sap_process.specs.Flaws.{HasNoScopeFlaw, IsFirstScopeFlaw}
use Rattle.sap_process.specs.declared.flaw.Flaw.{Flaw}
use Rattle.sap_macro.specs.Expansion.{plain, plain_after, plain_bodies, where_none, with_plain_body}
use Rattle.sap_macro.specs.Seen.{seen}
use Rattle.sap_macro.specs.Written.{Written, call, Definition}
use Rattle.sap_uses.specs.ScopeFlaws.{IsFirstFlawedBehind, IsFlawed, params_in_scope}
use Rattle.sap_uses.specs.code.Marks.{AreReached, IsFlawedThere}
use Rattle.sap_uses.proofs.Leading.{plain_leads, written_leads}
use Rattle.sap_terms.proofs.PlainLaws.Known.{clash}

-- none of the first definitions is flawed
abbrev pub NoneBefore : Sig → List Definition → Written → ℕ → Type 0
NoneBefore g ds p n = (k : ℕ) (d : Definition) → k < n → slice_get ds k ≡ Some d → (w : Flaw) (path : List ℕ) → ¬ IsFlawedThere g ds p d w path

pub none_before : (g : Sig) (ds : List Definition) (p : Written) → NoneBefore g ds p 0
none_before g ds p k d l is w path h = absurd (omega (arith, l))

pub one_before : (g : Sig) (ds : List Definition) (p : Written) (n : ℕ) (d : Definition) → slice_get ds n ≡ Some d → ((w : Flaw) (path : List ℕ) → ¬ IsFlawedThere g ds p d w path)
    → NoneBefore g ds p n → NoneBefore g ds p (n + 1)
one_before g ds p n d is none before k e l there w path h =
    ⊎_elim (λ lower. before k e lower there w path h) (λ same. this (omega (arith, l, same))) (cases_lt k n) where
      this : n ≡ k → ⊥
      this same =
          let got : Some d ≡ Some e = sym is ∙ ap (slice_get ds) same ∙ there in
          let one : d ≡ e = cc in
          none w path (subst (λ x. IsFlawedThere g ds p x w path) (sym one) h)

module _ (ds : List Definition) (p : Written) (bodies : plain_bodies call ds ≡ map (with_plain_body ds) ds)
    (defined : (d : Definition) (ts : List Tree) → Contains ds d → plain_after call ds d.name ts ≡ where_none d.params (plain ds d.body) (call d.name ts)) (g : Sig) where
  abbrev plain_ones : List Definition
  plain_ones = plain_bodies call ds

  plain_at : (k : ℕ) (d : Definition) → slice_get ds k ≡ Some d → slice_get plain_ones k ≡ Some (with_plain_body ds d)
  plain_at k d is = ap (λ (xs : List Definition). slice_get xs k) bodies ∙ slice_get-map (with_plain_body ds) ds k ∙ ap (option_map (with_plain_body ds)) is

  -- the definition that a plain one comes from
  from_plain : (k : ℕ) (e : Definition) → slice_get plain_ones k ≡ Some e → (d : Definition) × (slice_get ds k ≡ Some d) × (with_plain_body ds d ≡ e)
  from_plain k e is = by (slice_get ds k) refl where
    got : Option Definition → Option Definition
    got o = option_map (with_plain_body ds) o

    same : got (slice_get ds k) ≡ Some e
    same = sym (ap (λ (xs : List Definition). slice_get xs k) bodies ∙ slice_get-map (with_plain_body ds) ds k) ∙ is

    by : (o : Option Definition) → slice_get ds k ≡ o → (d : Definition) × (slice_get ds k ≡ Some d) × (with_plain_body ds d ≡ e)
    by None at = let none : None ≡ Some e = sym (ap got at) ∙ same in absurd (cc)
    by (Some d) at = let some : Some (with_plain_body ds d) ≡ Some e = sym (ap got at) ∙ same in (d, at, cc)

  there : (k : ℕ) (d : Definition) (w : Flaw) (path : List ℕ) → slice_get ds k ≡ Some d → IsFlawed g plain_ones (plain ds p) (with_plain_body ds d) w path → IsFlawedThere g ds p d w path
  there k d w path is h = record { parameters = h.parameters; reached = written_leads ds p bodies defined d.name h.reached; flaw = h.flaw }

  here : (k : ℕ) (d : Definition) (w : Flaw) (path : List ℕ) → slice_get ds k ≡ Some d → IsFlawedThere g ds p d w path → IsFlawed g plain_ones (plain ds p) (with_plain_body ds d) w path
  here k d w path is h = record { parameters = h.parameters; reached = plain_leads ds p bodies defined d (contains_got ds d k is) h.parameters h.reached; flaw = h.flaw }

  none_plain : (k : ℕ) (e : Definition) (w : Flaw) (path : List ℕ) (n : ℕ) → k < n → slice_get plain_ones k ≡ Some e → NoneBefore g ds p n → ¬ IsFlawed g plain_ones (plain ds p) e w path
  none_plain k e w path n l is before h =
      let from = from_plain k e is in
      before k from.0 l from.1 w path (there k from.0 w path from.1 (subst (λ x. IsFlawed g plain_ones (plain ds p) x w path) (sym from.2) h))

  -- the first that is flawed
  pub first_is : (k : ℕ) (d : Definition) (name : List ℕ) (w : Flaw) (path : List ℕ) → slice_get ds k ≡ Some d → name ≡ d.name → IsFlawedThere g ds p d w path → NoneBefore g ds p k
      → IsFirstFlawedBehind g ds p name w path
  first_is k d name w path is same h before = record {
    at = k;
    definition = with_plain_body ds d;
    stands = plain_at k d is;
    name_is = sym same;
    flawed = here k d w path is h;
    first = λ j l e at u q f. none_plain j e u q k l at before f;
  }

  -- and where none is
  pub none_is : (n : ℕ) → length ds ≤ n → NoneBefore g ds p n → (name : List ℕ) (w : Flaw) (path : List ℕ) → ¬ IsFirstFlawedBehind g ds p name w path
  none_is n all before name w path h =
      let from = from_plain h.at h.definition h.stands in
      let below = slice_get_within ds h.at from.0 from.1 in
      none_plain h.at h.definition w path n (omega (arith, below, all)) h.stands before h.flawed

-- ---- one definition

-- what follows from what a clause says of no value
pub IfNone_then : {T : Type 0} {P Q : Type 0} (o : Option T) → IfNone o P → (P → Q) → IfNone o Q
IfNone_then None h k = k h
IfNone_then (Some x) h k = tt

-- what a clause says of the value that is there, and of no value
pub value_there : {T : Type 0} (P : T → Type 0) (o : Option T) (x : T) → o ≡ Some x → IfSome o P → P x
value_there P o x e h = subst (λ z. IfSome z P) e h

pub none_there : {T P : Type 0} (o : Option T) → o ≡ None → IfNone o P → P
none_there {P = P} o e h = subst (λ z. IfNone z P) e h

some_params : (xs : List (List ℕ)) → nat_lt 0 (length xs) ≡ true → ¬ (xs ≡ [])
some_params xs is none = false≢true (sym (ap (λ ys. nat_lt 0 (length ys)) none) ∙ is)

no_params : (xs : List (List ℕ)) → nat_lt 0 (length xs) ≡ false → xs ≡ []
no_params [] is = refl
no_params (x ∷ xs) is = let none = ltb-false 0 (length (x ∷ xs)) is in absurd (omega (arith, none))

module _ (g : Sig) (ds : List Definition) (p : Written) (d : Definition) (names : List (List ℕ)) (b : Bool)
    (is : b ≡ (nat_lt 0 (length d.params) && list_any (bytes_eq d.name) names)) (reached : AreReached ds p names) where
  pub flaw_there : b ≡ true → (w : Flaw) (path : List ℕ) → IsFirstScopeFlaw g (params_in_scope d) (seen (plain ds d.body)) w path → IsFlawedThere g ds p d w path
  flaw_there wanted w path f =
      let both = and_parts (nat_lt 0 (length d.params)) (list_any (bytes_eq d.name) names) (sym is ∙ wanted) in
      record { parameters = some_params d.params both.0; reached = reached.sound d.name both.1; flaw = f }

  pub none_in_body : HasNoScopeFlaw g (params_in_scope d) (seen (plain ds d.body)) → (w : Flaw) (path : List ℕ) → ¬ IsFlawedThere g ds p d w path
  none_in_body none w path h = none w h.flaw.of_scope h.flaw.place h.flaw.at

  pub none_unwanted : b ≡ false → (w : Flaw) (path : List ℕ) → ¬ IsFlawedThere g ds p d w path
  none_unwanted unwanted w path h =
      ⊎_elim (λ none. h.parameters (no_params d.params none)) (λ missed. clash (list_any (bytes_eq d.name) names) (reached.all d.name h.reached) missed)
      (and_cases (nat_lt 0 (length d.params)) (list_any (bytes_eq d.name) names) (sym is ∙ unwanted))
