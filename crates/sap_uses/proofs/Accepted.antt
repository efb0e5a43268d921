-- Where no cause holds, what the process comes to use is closed.
use Rattle.std.proofs.Common.{◌≡◌, ℕ, Bool, true, false, List, [], ◌∷◌, ◌++◌, ◌⊎◌, inl, inr, length, map, refl, sym, ap, ◌∙◌, subst, ⊎_elim, arith}
use Rattle.std.proofs.lemmas.Bool.{false≢true}
use Rattle.std.proofs.lemmas.List.Elements.{Contains-append_cases, Contains-append_left, Contains-append_right}
use Rattle.std.proofs.lemmas.Option.{slice_get_within}
use Rattle.std.specs.List.{list_any}
use Rattle.std.specs.Prelude.{Contains, if◌then◌else◌}
use Rattle.std.specs.Str.{bytes_eq}
use Rattle.sap_terms.specs.Signature.{Sig}
use Rattle.sap_terms.specs.Tree.{Tree}
use Rattle.sap_terms.specs.Variables.{is_known}
use Rattle.sap_terms.specs.declared.var.Sort.TheVariants.{Msg}
use Rattle.sap_terms.proofs.PlainLaws.Items.{cons_cases, first_item, got_contained, item_cases, later_item, none_contained}
use Rattle.sap_process.specs.Sites.{var_names}
use Rattle.sap_macro.specs.Expansion.{plain, plain_after, plain_bodies, where_none, with_plain_body}
use Rattle.sap_macro.specs.Indexed.{defined}
use Rattle.sap_macro.specs.Instances.{AreClosedAmong, IsClosed}
use Rattle.sap_macro.specs.MacroCauses.{Use, uses}
use Rattle.sap_macro.specs.Order.{AreInOrder, UsesOnly, where_some, with_parameters}
use Rattle.sap_macro.specs.Seen.{seen}
use Rattle.sap_macro.specs.UpToNames.{named}
use Rattle.sap_macro.specs.Written.{Written, nil, call, parallel, replicated, act, test, lookup, Definition}
use Rattle.sap_uses.specs.FaultCauses.{Holds}
use Rattle.sap_uses.specs.ScopeFlaws.{LeadsTo, at_once, further, params_in_scope}
use Rattle.sap_uses.specs.code.Marks.{AreReached}
use Rattle.sap_uses.specs.declared.fault.MacroFault.{MacroFault}
use Rattle.sap_uses.specs.declared.fault.MacroFault.TheVariants.{Flawed}
use Rattle.sap_uses.proofs.Closed.{unflawed_closed}
use Rattle.sap_uses.proofs.FirstFlawed.{NoneBefore, first_is}
use Rattle.sap_uses.proofs.Leading.{item_mapped, plain_leads, written_leads}
use Rattle.sap_terms.proofs.PlainLaws.Known.{clash, apart, in_head, in_tail, in_cases, not_in, out_of}
use Rattle.sap_uses.proofs.Resolving.{apart_from}
use Rattle.sap_uses.proofs.SomeCause.{IsFirst, ScopeFlawOrNone, all_reached, first_or_none}

at_head : (x y : List ℕ) (ys : List (List ℕ)) → y ≡ x → is_known (y ∷ ys) x ≡ true
at_head x y ys e = subst (λ z. is_known (y ∷ ys) z ≡ true) e (in_head y ys)

-- ---- uses, and names that are used alone

uses_only : (names : List (List ℕ)) (w : Written) → ((u : Use) → Contains (uses w) u → is_known names u.0 ≡ true) → UsesOnly names w
uses_only names nil h = tt
uses_only names (call f ts) h = h (f, ts) (first_item (f, ts) [])
uses_only names (parallel p q) h =
    (uses_only names p (λ u c. h u (Contains-append_left (uses p) (uses q) u c)), uses_only names q (λ u c. h u (Contains-append_right (uses p) (uses q) u c)))
uses_only names (replicated p) h = uses_only names p h
uses_only names (act a p) h = uses_only names p h
uses_only names (test t z p q) h =
    (uses_only names p (λ u c. h u (Contains-append_left (uses p) (uses q) u c)), uses_only names q (λ u c. h u (Contains-append_right (uses p) (uses q) u c)))
uses_only names (lookup t x p q) h =
    (uses_only names p (λ u c. h u (Contains-append_left (uses p) (uses q) u c)), uses_only names q (λ u c. h u (Contains-append_right (uses p) (uses q) u c)))

module _ (names : List (List ℕ)) (u : Use) where
  in_both : (p q : Written) → (Contains (uses p) u → is_known names u.0 ≡ true) → (Contains (uses q) u → is_known names u.0 ≡ true) → Contains (uses p ++ uses q) u → is_known names u.0 ≡ true
  in_both p q h k c = ⊎_elim h k (Contains-append_cases (uses p) (uses q) u c)

  used_is : (w : Written) → UsesOnly names w → Contains (uses w) u → is_known names u.0 ≡ true
  used_is nil h c = absurd (none_contained c)
  used_is (call f ts) h c = subst (λ (z : Use). is_known names z.0 ≡ true) (item_cases (f, ts) u c) h
  used_is (parallel p q) h c = in_both p q (used_is p h.0) (used_is q h.1) c
  used_is (replicated p) h c = used_is p h c
  used_is (act a p) h c = used_is p h c
  used_is (test t z p q) h c = in_both p q (used_is p h.0) (used_is q h.1) c
  used_is (lookup t x p q) h c = in_both p q (used_is p h.0) (used_is q h.1) c

-- ---- definitions in order

-- each body uses names alone that are defined
ordered_uses : (ds : List Definition) (known total : List (List ℕ)) → AreInOrder known ds → ((f : List ℕ) → is_known known f ≡ true → is_known total f ≡ true)
    → ((f : List ℕ) → is_known (defined ds) f ≡ true → is_known total f ≡ true) → (d : Definition) → Contains ds d → UsesOnly total d.body
ordered_uses [] known total h a b d c = absurd (none_contained c)
ordered_uses (e ∷ es) known total h a b d c =
    ⊎_elim (λ same. subst (λ (z : Definition). UsesOnly total z.body) same (uses_only total e.body (λ u i. a u.0 (used_is known u e.body h.1.0 i))))
    (λ rest. ordered_uses es (e.name ∷ known) total h.1.1
    (λ f k. ⊎_elim (λ same. b f (at_head f e.name (defined es) same)) (λ l. a f l) (in_cases f e.name known k)) (λ f k. b f (in_tail f e.name (defined es) k)) d rest)
    (cons_cases e es d c)

where_absent : (xs : List (List ℕ)) (n f : List ℕ) (names : List (List ℕ)) → bytes_eq n f ≡ false → is_known names f ≡ false → is_known (where_some xs n names) f ≡ false
where_absent [] n f names e h = h
where_absent (x ∷ xs) n f names e h = out_of f n names e h

-- what isn't defined has no parameters
absent : (ds : List Definition) (names : List (List ℕ)) (f : List ℕ) → is_known names f ≡ false → is_known (defined ds) f ≡ false → is_known (with_parameters names ds) f ≡ false
absent [] names f h k = h
absent (e ∷ es) names f h k =
    let other = not_in f e.name (defined es) k in
    absent es (where_some e.params e.name names) f (where_absent e.params e.name f names other.0 h) other.1

is_defined : (ds : List Definition) (d : Definition) → Contains ds d → is_known (defined ds) d.name ≡ true
is_defined [] d c = absurd (none_contained c)
is_defined (e ∷ es) d c =
    ⊎_elim (λ same. at_head d.name e.name (defined es) (ap (λ (z : Definition). z.name) same)) (λ rest. in_tail d.name e.name (defined es) (is_defined es d rest)) (cons_cases e es d c)

module _ (e : Definition) (es : List Definition) (known : List (List ℕ)) (h : AreInOrder known (e ∷ es)) (d : Definition) where
  not_again : is_known (defined es) e.name ≡ false
  not_again = apart_from es (e.name ∷ known) h.1.1 e.name (in_head e.name known)

  other_name : Contains es d → bytes_eq e.name d.name ≡ false
  other_name c = apart e.name d.name (λ same. clash (is_known (defined es) d.name) (is_defined es d c) (sym (ap (is_known (defined es)) same) ∙ not_again))

  first_has : (names : List (List ℕ)) → e ≡ d → is_known names d.name ≡ false → is_known (with_parameters (where_some e.params e.name names) es) d.name ≡ true → ¬ (d.params ≡ [])
  first_has names same before k empty =
      let none : where_some e.params e.name names ≡ names = ap (λ (xs : List (List ℕ)). where_some xs e.name names) (ap (λ (z : Definition). z.params) same ∙ empty) in
      let one : is_known (where_some e.params e.name names) d.name ≡ false = ap (λ (xs : List (List ℕ)). is_known xs d.name) none ∙ before in
      let other : is_known (defined es) d.name ≡ false = subst (λ (z : Definition). is_known (defined es) z.name ≡ false) same not_again in
      clash (is_known (with_parameters (where_some e.params e.name names) es) d.name) k (absent es (where_some e.params e.name names) d.name one other)

-- a definition whose name is one of those with parameters has parameters
has_parameters : (ds : List Definition) (known names : List (List ℕ)) → AreInOrder known ds → (d : Definition) → Contains ds d → is_known names d.name ≡ false
    → is_known (with_parameters names ds) d.name ≡ true → ¬ (d.params ≡ [])
has_parameters [] known names h d c before k empty = none_contained c
has_parameters (e ∷ es) known names h d c before k empty =
    ⊎_elim (λ same. first_has e es known h d names same before k empty)
    (λ rest. has_parameters es (e.name ∷ known) (where_some e.params e.name names) h.1.1 d rest
    (where_absent e.params e.name d.name names (other_name e es known h d rest) before) k empty)
    (cons_cases e es d c)

-- ---- those of these names that are marked

abbrev marked_ones : List (List ℕ) → List (List ℕ) → List (List ℕ)
marked_ones all [] = []
marked_ones all (n ∷ ns) = if list_any (bytes_eq n) all then (n ∷ marked_ones all ns) else marked_ones all ns

abbrev one_marked : Bool → List ℕ → List (List ℕ) → List (List ℕ)
one_marked b n ns = if b then (n ∷ ns) else ns

one_kept : (b : Bool) (n f : List ℕ) (ns : List (List ℕ)) → is_known ns f ≡ true → is_known (one_marked b n ns) f ≡ true
one_kept true n f ns h = in_tail f n ns h
one_kept false n f ns h = h

one_first : (b : Bool) (n f : List ℕ) (ns : List (List ℕ)) → n ≡ f → b ≡ true → is_known (one_marked b n ns) f ≡ true
one_first true n f ns same h = at_head f n ns same
one_first false n f ns same h = absurd (false≢true h)

one_cases : (b : Bool) (n f : List ℕ) (ns : List (List ℕ)) → is_known (one_marked b n ns) f ≡ true → ((n ≡ f) × (b ≡ true)) ⊎ (is_known ns f ≡ true)
one_cases true n f ns h = ⊎_elim (λ same. inl (same, refl)) (λ l. inr l) (in_cases f n ns h)
one_cases false n f ns h = inr h

kept : (all ns : List (List ℕ)) (f : List ℕ) → is_known ns f ≡ true → list_any (bytes_eq f) all ≡ true → is_known (marked_ones all ns) f ≡ true
kept all [] f h k = h
kept all (n ∷ ns) f h k =
    ⊎_elim (λ same. one_first (list_any (bytes_eq n) all) n f (marked_ones all ns) same (subst (λ z. list_any (bytes_eq z) all ≡ true) (sym same) k))
    (λ l. one_kept (list_any (bytes_eq n) all) n f (marked_ones all ns) (kept all ns f l k)) (in_cases f n ns h)

both_of : (all ns : List (List ℕ)) (f : List ℕ) → is_known (marked_ones all ns) f ≡ true → (is_known ns f ≡ true) × (list_any (bytes_eq f) all ≡ true)
both_of all [] f h = absurd (false≢true h)
both_of all (n ∷ ns) f h =
    ⊎_elim (λ one. (at_head f n ns one.0, subst (λ z. list_any (bytes_eq z) all ≡ true) one.0 one.1))
    (λ l. let rest = both_of all ns f l in (in_tail f n ns rest.0, rest.1)) (one_cases (list_any (bytes_eq n) all) n f (marked_ones all ns) h)

names_of : (ns : List (List ℕ)) → var_names (map (λ n. named n Msg) ns) ≡ ns
names_of [] = refl
names_of (n ∷ ns) = ap (λ (ms : List (List ℕ)). n ∷ ms) (names_of ns)

-- ---- where no cause holds

-- once names without parameters are replaced, names alone are used that have parameters
abbrev pub PlainUsesHaveParameters : Type 0
PlainUsesHaveParameters = (ds : List Definition) (p : Written) → AreInOrder [] ds → UsesOnly (defined ds) p → UsesOnly (with_parameters [] ds) (plain ds p)

module _ (g : Sig) (flaws : ScopeFlawOrNone g) (parameters : PlainUsesHaveParameters) (ds : List Definition) (p : Written) (order : AreInOrder [] ds)
    (held : UsesOnly (defined ds) p) (bodies : plain_bodies call ds ≡ map (with_plain_body ds) ds)
    (defines : (d : Definition) (ts : List Tree) → Contains ds d → plain_after call ds d.name ts ≡ where_none d.params (plain ds d.body) (call d.name ts))
    (none : (e : MacroFault) → ¬ Holds g ds p e) where
  abbrev all : List (List ℕ)
  all = (all_reached ds p order).0

  abbrev reached : AreReached ds p all
  reached = (all_reached ds p order).1

  unflawed : NoneBefore g ds p (length ds)
  unflawed =
      ⊎_elim (λ n. n)
      (λ (f : IsFirst g flaws ds p all reached). absurd (none (Flawed f.1.name f.2 f.3) (first_is ds p bodies defines g f.0 f.1 f.1.name f.2 f.3 f.4 refl f.5 f.6)))
      (first_or_none g flaws ds p all reached (length ds) (omega arith))

  abbrev names : List (List ℕ)
  names = marked_ones all (with_parameters [] ds)

  only : (w : Written) → UsesOnly (with_parameters [] ds) w → ((u : Use) → Contains (uses w) u → LeadsTo ds p u.0) → UsesOnly names w
  only w h leads =
      uses_only names w
      (λ u c. kept all (with_parameters [] ds) u.0 (used_is (with_parameters [] ds) u w h c) (reached.all u.0 (leads u c)))

  process_only : UsesOnly names (plain ds p)
  process_only = only (plain ds p) (parameters ds p order held) (λ u c. written_leads ds p bodies defines u.0 (at_once {u = u} c))

  closed_body : (d : Definition) → Contains ds d → ¬ (d.params ≡ []) → LeadsTo ds p d.name → IsClosed d.params (plain ds d.body)
  closed_body d at some leads =
      let there = got_contained ds d at in
      ⊎_elim
      (λ clean. subst (λ (xs : List (List ℕ)). IsClosed xs (plain ds d.body)) (names_of d.params) (unflawed_closed g (params_in_scope d) (plain ds d.body) clean))
      (λ f. absurd (unflawed there.0 d (slice_get_within ds there.0 d there.1) there.1 f.0 f.1 (record { parameters = some; reached = leads; flaw = f.2 })))
      (flaws (params_in_scope d) (seen (plain ds d.body)))

  one_body : (d : Definition) → Contains ds d → is_known names d.name ≡ true → IsClosed d.params (plain ds d.body) × UsesOnly names (plain ds d.body)
  one_body d at k =
      let both = both_of all (with_parameters [] ds) d.name k in
      let leads = reached.sound d.name both.1 in
      let some = has_parameters ds [] [] order d at refl both.0 in
      let there = plain_leads ds p bodies defines d at some leads in
      let stands = subst (λ (es : List Definition). Contains es (with_plain_body ds d)) (sym bodies) (item_mapped (with_plain_body ds) ds d at) in (
        closed_body d at some leads,
        only (plain ds d.body) (parameters ds d.body order (ordered_uses ds [] (defined ds) order (λ f l. absurd (false≢true l)) (λ f l. l) d at))
            (λ u c. written_leads ds p bodies defines u.0 (further {d = with_plain_body ds d} {u = u} there stands c)),
      )

  each_body : (es : List Definition) → ((d : Definition) → Contains es d → Contains ds d) → AreClosedAmong names (map (with_plain_body ds) es)
  each_body [] i = tt
  each_body (d ∷ es) i = (λ k. one_body d (i d (first_item d es)) k, each_body es (λ e c. i e (later_item d es e c)))

  pub accepted : (names : List (List ℕ)) × UsesOnly names (plain ds p) × AreClosedAmong names (plain_bodies call ds)
  accepted = (names, process_only, subst (AreClosedAmong names) (sym bodies) (each_body ds (λ d c. c)))
