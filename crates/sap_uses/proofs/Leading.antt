-- What a process leads to as it is written, and once names without parameters are replaced.
use Rattle.std.proofs.Common.{◌≡◌, ℕ, true, false, Bool, List, [], ◌∷◌, ◌++◌, map, refl, sym, ap, ◌∙◌, subst, ⊎_elim, arith}
use Rattle.std.proofs.lemmas.List.Elements.{Contains-append_cases, Contains-append_left, Contains-append_right}
use Rattle.std.specs.Prelude.{if◌then◌else◌, Contains}
use Rattle.std.specs.Str.{bytes_eq}
use Rattle.sap_terms.specs.Tree.{Tree}
use Rattle.sap_terms.proofs.PlainLaws.Items.{cons_cases, first_item, item_cases, later_item, none_contained}
use Rattle.sap_macro.specs.Expansion.{Plain, plain, plain_after, plain_bodies, where_none, with_plain, with_plain_body, with_uses}
use Rattle.sap_macro.specs.MacroCauses.{Use, uses}
use Rattle.sap_macro.specs.Written.{Written, nil, call, parallel, replicated, act, test, lookup, Definition}
use Rattle.sap_uses.specs.ScopeFlaws.{LeadsTo, at_once, further}
use Rattle.sap_terms.proofs.PlainLaws.Known.{one_name}

-- ---- uses behind uses

module _ (m : Plain) (u : Use) where
  -- it stands in what one of these uses becomes
  abbrev IsInside : List Use → Type 0
  IsInside vs = (v : Use) × Contains vs v × Contains (uses (m v.0 v.1)) u

  inside_left : (a b : List Use) → IsInside a → IsInside (a ++ b)
  inside_left a b (v, c, h) = (v, Contains-append_left a b v c, h)

  inside_right : (a b : List Use) → IsInside b → IsInside (a ++ b)
  inside_right a b (v, c, h) = (v, Contains-append_right a b v c, h)

  inner_two : (a b : List Use) (p q : Written) → (Contains (uses (with_uses m p)) u → IsInside a) → (Contains (uses (with_uses m q)) u → IsInside b)
      → Contains (uses (with_uses m p) ++ uses (with_uses m q)) u → IsInside (a ++ b)
  inner_two a b p q h k c =
      ⊎_elim (λ l. inside_left a b (h l)) (λ r. inside_right a b (k r)) (Contains-append_cases (uses (with_uses m p)) (uses (with_uses m q)) u c)

  pub inner_use : (w : Written) → Contains (uses (with_uses m w)) u → IsInside (uses w)
  inner_use nil c = absurd (none_contained c)
  inner_use (call f ts) c = ((f, ts), first_item (f, ts) [], c)
  inner_use (parallel p q) c = inner_two (uses p) (uses q) p q (inner_use p) (inner_use q) c
  inner_use (replicated p) c = inner_use p c
  inner_use (act a p) c = inner_use p c
  inner_use (test t z p q) c = inner_two (uses p) (uses q) p q (inner_use p) (inner_use q) c
  inner_use (lookup t x p q) c = inner_two (uses p) (uses q) p q (inner_use p) (inner_use q) c

  module _ (v : Use) (h : Contains (uses (m v.0 v.1)) u) where
    outer_two : (p q : Written) → (Contains (uses p) v → Contains (uses (with_uses m p)) u) → (Contains (uses q) v → Contains (uses (with_uses m q)) u)
        → Contains (uses p ++ uses q) v → Contains (uses (with_uses m p) ++ uses (with_uses m q)) u
    outer_two p q l r c =
        ⊎_elim (λ a. Contains-append_left (uses (with_uses m p)) (uses (with_uses m q)) u (l a))
        (λ a. Contains-append_right (uses (with_uses m p)) (uses (with_uses m q)) u (r a)) (Contains-append_cases (uses p) (uses q) v c)

    pub outer_use : (w : Written) → Contains (uses w) v → Contains (uses (with_uses m w)) u
    outer_use nil c = absurd (none_contained c)
    outer_use (call f ts) c = subst (λ (z : Use). Contains (uses (m z.0 z.1)) u) (sym (item_cases (f, ts) v c)) h
    outer_use (parallel p q) c = outer_two p q (outer_use p) (outer_use q) c
    outer_use (replicated p) c = outer_use p c
    outer_use (act a p) c = outer_use p c
    outer_use (test t z p q) c = outer_two p q (outer_use p) (outer_use q) c
    outer_use (lookup t x p q) c = outer_two p q (outer_use p) (outer_use q) c

-- ---- names lead where they led

module _ (all : List Definition) (p : Written) where
  -- what a name that is led to becomes uses names alone that are led to
  abbrev AllLead : Plain → Type 0
  AllLead m = (f : List ℕ) (ts : List Tree) (u : Use) → LeadsTo all p f → Contains (uses (m f ts)) u → LeadsTo all p u.0

  call_leads : AllLead call
  call_leads f ts u l c = subst (λ (z : Use). LeadsTo all p z.0) (item_cases (f, ts) u c) l

  with_leads : (m : Plain) (d : Definition) → Contains all d → AllLead m → AllLead (with_plain m d)
  with_leads m d at h f ts u l c = by (bytes_eq d.name f) refl c where
    own : (xs : List (List ℕ)) → d.name ≡ f → Contains (uses (where_none xs (with_uses m d.body) (call f ts))) u → LeadsTo all p u.0
    own [] e c =
        let inside = inner_use m u d.body c in
        h inside.0.0 inside.0.1 u (further {d = d} {u = inside.0} (subst (LeadsTo all p) (sym e) l) at inside.1) inside.2
    own (x ∷ xs) e c = call_leads f ts u l c

    by : (b : Bool) → bytes_eq d.name f ≡ b → Contains (uses (if b then where_none d.params (with_uses m d.body) (call f ts) else m f ts)) u → LeadsTo all p u.0
    by true e c = own d.params (one_name d.name f e) c
    by false e c = h f ts u l c

  after_lead : (ds : List Definition) (m : Plain) → ((d : Definition) → Contains ds d → Contains all d) → AllLead m → AllLead (plain_after m ds)
  after_lead [] m i h = h
  after_lead (d ∷ ds) m i h = after_lead ds (with_plain m d) (λ e c. i e (later_item d ds e c)) (with_leads m d (i d (first_item d ds)) h)

-- an item of what a list becomes
mapped_item : {X Y : Type 0} (f : X → Y) (xs : List X) (y : Y) → Contains (map f xs) y → (x : X) × Contains xs x × (f x ≡ y)
mapped_item f [] y c = absurd (none_contained c)
mapped_item f (x ∷ xs) y c = ⊎_elim (λ e. (x, first_item x xs, e)) (λ o. let rest = mapped_item f xs y o in (rest.0, later_item x xs rest.0 rest.1, rest.2)) (cons_cases (f x) (map f xs) y c)

pub item_mapped : {X Y : Type 0} (f : X → Y) (xs : List X) (x : X) → Contains xs x → Contains (map f xs) (f x)
item_mapped f [] x c = absurd (none_contained c)
item_mapped f (z ∷ xs) x c =
    ⊎_elim (λ e. subst (λ y. Contains (f z ∷ map f xs) (f y)) e (first_item (f z) (map f xs))) (λ o. later_item (f z) (map f xs) (f x) (item_mapped f xs x o)) (cons_cases z xs x c)

module _ (ds : List Definition) (p : Written) (bodies : plain_bodies call ds ≡ map (with_plain_body ds) ds)
    (defined : (d : Definition) (ts : List Tree) → Contains ds d → plain_after call ds d.name ts ≡ where_none d.params (plain ds d.body) (call d.name ts)) where
  abbrev becomes : Plain
  becomes = plain_after call ds

  -- what is led to behind the replaced names is led to behind the written ones
  pub written_leads : (f : List ℕ) → LeadsTo (plain_bodies call ds) (plain ds p) f → LeadsTo ds p f
  written_leads f (at_once {u = u} c) =
      let inside = inner_use becomes u p c in
      after_lead ds p ds call (λ d i. i) (call_leads ds p) inside.0.0 inside.0.1 u (at_once {u = inside.0} inside.1) inside.2
  written_leads f (further {d = d} {u = u} l at c) =
      let from = mapped_item (with_plain_body ds) ds d (subst (λ (xs : List Definition). Contains xs d) bodies at) in
      let inside = inner_use becomes u from.0.body (subst (λ (e : Definition). Contains (uses e.body) u) (sym from.2) c) in
      let there = subst (λ (e : Definition). LeadsTo ds p e.name) (sym from.2) (written_leads d.name l) in
      after_lead ds p ds call (λ e i. i) (call_leads ds p) inside.0.0 inside.0.1 u (further {d = from.0} {u = inside.0} there from.1 inside.1) inside.2

  -- on some arguments the name becomes what uses names alone that are led to behind the replaced names
  abbrev Leads : List ℕ → Type 0
  Leads f = (ts : List Tree) × ((u : Use) → Contains (uses (becomes f ts)) u → LeadsTo (plain_bodies call ds) (plain ds p) u.0)

  with_parameters : (d : Definition) → Contains ds d → ¬ (d.params ≡ []) → Leads d.name → LeadsTo (plain_bodies call ds) (plain ds p) d.name
  with_parameters d at some (ts, h) = h (d.name, ts) (subst (λ w. Contains (uses w) (d.name, ts)) (sym (defined d ts at ∙ stays d.params some)) (first_item (d.name, ts) [])) where
    stays : (xs : List (List ℕ)) → ¬ (xs ≡ []) → where_none xs (plain ds d.body) (call d.name ts) ≡ call d.name ts
    stays [] some = absurd (some refl)
    stays (x ∷ xs) some = refl

  all_lead : (f : List ℕ) → LeadsTo ds p f → Leads f
  all_lead f (at_once {u = u} c) = (u.1, λ w cw. at_once {u = w} (outer_use becomes w u cw p c))
  all_lead f (further {d = d} {u = u} l at c) = (u.1, λ w cw. by (all_lead d.name l) d.params refl w cw) where
    by : Leads d.name → (xs : List (List ℕ)) → d.params ≡ xs → (w : Use) → Contains (uses (becomes u.0 u.1)) w → LeadsTo (plain_bodies call ds) (plain ds p) w.0
    by before [] e w cw =
        before.1 w (subst (λ z. Contains (uses z) w) (sym (defined d before.0 at ∙ ap (λ ys. where_none ys (plain ds d.body) (call d.name before.0)) e)) (outer_use becomes w u cw d.body c))
    by before (x ∷ xs) e w cw =
        further {d = with_plain_body ds d} {u = w} (with_parameters d at (λ n. let some : x ∷ xs ≡ [] = sym e ∙ n in absurd (cc)) before)
        (subst (λ (es : List Definition). Contains es (with_plain_body ds d)) (sym bodies) (item_mapped (with_plain_body ds) ds d at)) (outer_use becomes w u cw d.body c)

  -- and back, of definitions with parameters
  pub plain_leads : (d : Definition) → Contains ds d → ¬ (d.params ≡ []) → LeadsTo ds p d.name → LeadsTo (plain_bodies call ds) (plain ds p) d.name
  plain_leads d at some l = with_parameters d at some (all_lead d.name l)
