-- What is seen of what is written, part by part.
use Rattle.std.proofs.Common.{◌≡◌, ℕ, Bool, true, false, List, [], ◌∷◌, Option, Some, map, refl, sym, ap, subst, ◌∙◌}
use Rattle.std.specs.Prelude.{◌||◌, Contains}
use Rattle.std.specs.Str.{bytes_eq}
use Rattle.std.proofs.lemmas.Slice.Eq.{bytes_eq-Decides}
use Rattle.sap_terms.specs.Tree.{Tree}
use Rattle.sap_terms.specs.Variables.{is_known}
use Rattle.sap_terms.specs.declared.var.Var.{Var}
use Rattle.sap_terms.proofs.PlainLaws.Items.{first_item, later_item}
use Rattle.sap_process.specs.Action.{Action, event}
use Rattle.sap_process.specs.Proc as whole
use Rattle.sap_process.specs.Proc.{Proc}
use Rattle.sap_macro.specs.Expansion.{Plain, plain, plain_after, where_none, with_uses}
use Rattle.sap_macro.specs.Indexed.{defined}
use Rattle.sap_macro.specs.Located.{Located, nil_at, call_at, parallel_at, replicated_at, act_at, test_at, lookup_at, without_numbers}
use Rattle.sap_macro.specs.Order.{AreInOrder, UsesOnly}
use Rattle.sap_macro.specs.Seen.{seen}
use Rattle.sap_macro.specs.UpToNames.{fact}
use Rattle.sap_macro.specs.Written.{Written, call, Definition}
use Rattle.sap_origin.specs.Definitions.{LocatedDefinition, plain_definition}
use Rattle.sap_origin.specs.Meant.{definition_of}
use Rattle.sap_origin.specs.Reached.{IsLeft}
use Rattle.sap_origin.specs.declared.trail.Replaced.TheVariants as replaced

-- a use that is left, as it is seen
abbrev pub left_use : List ℕ → List Tree → Proc
left_use f ts = whole.act (event (fact f false ts)) whole.nil

-- this is seen of what is written: each form as it is, a use that is left as an event, and another as its definition's body
pub data SeenSo (ds : List LocatedDefinition) : Located → Proc → Type 0 where
  so_nil : {k : ℕ} → SeenSo ds (nil_at k) whole.nil
  so_left : {k : ℕ} {f : List ℕ} {ts : List Tree} → IsLeft ds replaced.Plain f → SeenSo ds (call_at k f ts) (left_use f ts)
  so_use : {k : ℕ} {f : List ℕ} {ts : List Tree} {d : LocatedDefinition} {x : Proc} → definition_of ds f ≡ Some d → d.params ≡ [] → SeenSo ds d.body x → SeenSo ds (call_at k f ts) x
  so_parallel : {k : ℕ} {p q : Located} {x y : Proc} → SeenSo ds p x → SeenSo ds q y → SeenSo ds (parallel_at k p q) (whole.parallel x y)
  so_replicated : {k : ℕ} {p : Located} {x : Proc} → SeenSo ds p x → SeenSo ds (replicated_at k p) (whole.replicated x)
  so_act : {k : ℕ} {a : Action} {p : Located} {x : Proc} → SeenSo ds p x → SeenSo ds (act_at k a p) (whole.act a x)
  so_test : {k : ℕ} {t u : Tree} {p q : Located} {x y : Proc} → SeenSo ds p x → SeenSo ds q y → SeenSo ds (test_at k t u p q) (whole.test t u x y)
  so_lookup : {k : ℕ} {t : Tree} {z : Var} {p q : Located} {x y : Proc} → SeenSo ds p x → SeenSo ds q y → SeenSo ds (lookup_at k t z p q) (whole.lookup t z x y)

-- what the law of names without parameters says of these definitions
abbrev pub NamesStand : List Definition → Type 0
NamesStand ds = (d : Definition) (ts : List Tree) → Contains ds d → plain_after call ds d.name ts ≡ where_none d.params (plain ds d.body) (call d.name ts)

module _ (ds : List LocatedDefinition) where
  -- the definitions without numbers, and what names stand for
  abbrev plain_ds : List Definition
  plain_ds = map plain_definition ds

  abbrev stands : Plain
  stands = plain_after call plain_ds

  -- of a process that uses these alone so is seen what is seen of it
  abbrev AreSeen : List (List ℕ) → Type 0
  AreSeen known = (p : Located) → UsesOnly known (without_numbers p) → SeenSo ds p (seen (with_uses stands (without_numbers p)))

  -- of a use of these
  abbrev UsesAreSeen : List (List ℕ) → Type 0
  UsesAreSeen known = (k : ℕ) (f : List ℕ) (ts : List Tree) → is_known known f ≡ true → SeenSo ds (call_at k f ts) (seen (stands f ts))

  by_uses : (known : List (List ℕ)) → UsesAreSeen known → AreSeen known
  by_uses known uses (nil_at k) only = so_nil
  by_uses known uses (call_at k f ts) only = uses k f ts only
  by_uses known uses (parallel_at k p q) only = so_parallel (by_uses known uses p only.0) (by_uses known uses q only.1)
  by_uses known uses (replicated_at k p) only = so_replicated (by_uses known uses p only)
  by_uses known uses (act_at k a p) only = so_act (by_uses known uses p only)
  by_uses known uses (test_at k t u p q) only = so_test (by_uses known uses p only.0) (by_uses known uses q only.1)
  by_uses known uses (lookup_at k t x p q) only = so_lookup (by_uses known uses p only.0) (by_uses known uses q only.1)

  nothing_seen : AreSeen []
  nothing_seen p only = by_uses [] (λ k f ts fails. absurd (cc (fails))) p only

  module _ (law : NamesStand plain_ds) where
    -- ---- one more definition

    module _ (d : LocatedDefinition) (known : List (List ℕ)) (is : definition_of ds d.name ≡ Some d) (there : Contains plain_ds (plain_definition d)) (only : UsesOnly known (without_numbers d.body))
        (before : AreSeen known) where
      other_is : (c : LocatedDefinition) → definition_of ds d.name ≡ Some c → d ≡ c
      other_is c e = let same : ◌≡◌ {A = Option LocatedDefinition} (Some d) (Some c) = sym is ∙ e in cc (same)

      -- its own use
      own_use : (xs : List (List ℕ)) → d.params ≡ xs → (k : ℕ) (ts : List Tree) → SeenSo ds (call_at k d.name ts) (seen (where_none xs (plain plain_ds (without_numbers d.body)) (call d.name ts)))
      own_use [] e k ts = so_use is e (before d.body only)
      own_use (x ∷ xs) e k ts = so_left (λ c h g. let none : c.params ≡ [] = g in let same : c.params ≡ d.params = ap (λ (b : LocatedDefinition). b.params) (sym (other_is c h)) in absurd (cc (same, e, none)))

      pub more_seen : AreSeen (d.name ∷ known)
      more_seen p uses = by_uses (d.name ∷ known) use_seen p uses
        where
          by : (k : ℕ) (f : List ℕ) (ts : List Tree) (t : Bool) → bytes_eq d.name f ≡ t → (t || is_known known f) ≡ true → SeenSo ds (call_at k f ts) (seen (stands f ts))
          by k f ts true e holds =
              let name_is : d.name ≡ f = (bytes_eq-Decides d.name f).0 e in
              subst (λ (g : List ℕ). SeenSo ds (call_at k g ts) (seen (stands g ts))) name_is
              (subst (λ (w : Written). SeenSo ds (call_at k d.name ts) (seen w)) (sym (law (plain_definition d) ts there)) (own_use d.params refl k ts))
          by k f ts false e holds = before (call_at k f ts) holds

          use_seen : UsesAreSeen (d.name ∷ known)
          use_seen k f ts holds = by k f ts (bytes_eq d.name f) refl holds

    -- ---- all of them

    -- behind these definitions: names of which all are seen so
    record AllSeen (es : List LocatedDefinition) (known : List (List ℕ)) : Type 0 where
      pub names : List (List ℕ)
      pub are : AreSeen names
      pub hold : (f : List ℕ) → is_known known f ≡ true → is_known names f ≡ true
      pub hold_all : (f : List ℕ) → is_known (defined (map plain_definition es)) f ≡ true → is_known names f ≡ true

    all_seen : (es : List LocatedDefinition) (known : List (List ℕ)) → AreInOrder known (map plain_definition es)
        → ((f : List ℕ) → is_known known f ≡ false → definition_of ds f ≡ definition_of es f) → ((d : Definition) → Contains (map plain_definition es) d → Contains plain_ds d)
        → AreSeen known → AllSeen es known
    all_seen [] known order found inside are = record { names = known; are = are; hold = λ f holds. holds; hold_all = λ f fails. absurd (cc (fails)) }
    all_seen (d ∷ es) known order found inside are =
        let same : bytes_eq d.name d.name ≡ true = (bytes_eq-Decides d.name d.name).1 refl in
        let is : definition_of ds d.name ≡ Some d = found d.name order.0 ∙ rw same refl in
        let there : Contains plain_ds (plain_definition d) = inside (plain_definition d) (first_item (plain_definition d) (map plain_definition es)) in
        let rest = all_seen es (d.name ∷ known) order.1.1
        (λ f fails. next f (bytes_eq d.name f) refl fails)
        (λ c among. inside c (later_item (plain_definition d) (map plain_definition es) c among))
        (more_seen d known is there order.1.0 are) in
        record {
          names = rest.names;
          are = rest.are;
          hold = λ f holds. rest.hold f (more f (bytes_eq d.name f) holds);
          hold_all = λ f holds. either f (bytes_eq d.name f) refl holds rest.names rest.hold rest.hold_all;
        }
      where
        more : (f : List ℕ) (t : Bool) → is_known known f ≡ true → (t || is_known known f) ≡ true
        more f true holds = refl
        more f false holds = holds

        next : (f : List ℕ) (t : Bool) → bytes_eq d.name f ≡ t → (bytes_eq d.name f || is_known known f) ≡ false → definition_of ds f ≡ definition_of es f
        next f true e fails = let never : true ≡ false = rw e at fails in absurd (cc (never))
        next f false e fails =
            let unknown : is_known known f ≡ false = rw e at fails in
            found f unknown ∙ rw e refl

        either : (f : List ℕ) (t : Bool) → bytes_eq d.name f ≡ t → (bytes_eq d.name f || is_known (defined (map plain_definition es)) f) ≡ true
            → (names : List (List ℕ)) → ((g : List ℕ) → (bytes_eq d.name g || is_known known g) ≡ true → is_known names g ≡ true)
            → ((g : List ℕ) → is_known (defined (map plain_definition es)) g ≡ true → is_known names g ≡ true) → is_known names f ≡ true
        either f true e holds names hold all = hold f (rw e refl)
        either f false e holds names hold all = all f (rw e at holds)

    pub seen_so : AreInOrder [] plain_ds → (p : Located) → UsesOnly (defined plain_ds) (without_numbers p) → SeenSo ds p (seen (plain plain_ds (without_numbers p)))
    seen_so order p uses =
        let all = all_seen ds [] order (λ f fails. refl) (λ d among. among) nothing_seen in
        all.are p (more_names all.names p uses all.hold_all)
      where
        more_names : (names : List (List ℕ)) (q : Located) → UsesOnly (defined plain_ds) (without_numbers q) → ((f : List ℕ) → is_known (defined plain_ds) f ≡ true → is_known names f ≡ true)
            → UsesOnly names (without_numbers q)
        more_names names (nil_at k) uses hold = tt
        more_names names (call_at k f ts) uses hold = hold f uses
        more_names names (parallel_at k p q) uses hold = (more_names names p uses.0 hold, more_names names q uses.1 hold)
        more_names names (replicated_at k p) uses hold = more_names names p uses hold
        more_names names (act_at k a p) uses hold = more_names names p uses hold
        more_names names (test_at k t u p q) uses hold = (more_names names p uses.0 hold, more_names names q uses.1 hold)
        more_names names (lookup_at k t x p q) uses hold = (more_names names p uses.0 hold, more_names names q uses.1 hold)
