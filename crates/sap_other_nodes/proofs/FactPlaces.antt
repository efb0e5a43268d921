-- The first fact that differs from one that is told, of the places of a list.
use Rattle.std.proofs.Common.{◌≡◌, ℕ, suc, ◌+◌, ◌<◌, List, [], ◌∷◌, ◌++◌, Option, Some, None, Bool, true, false, length, inl, inr, arith, refl, sym, ap, subst, append_assoc, ◌∙◌}
use Rattle.std.specs.Prelude.{◌⊎◌, Contains, min, slice_get, option_map}
use Rattle.std.specs.List.{find}
use Rattle.std.proofs.lemmas.List.Elements.{Contains-append_cases}
use Rattle.sap_terms.specs.declared.fact.Fact.{Fact}
use Rattle.sap_terms.proofs.PlainLaws.Items.{contains_got, got_contained, cons_cases, item_cases}
use Rattle.sap_process.specs.Places.{IsBefore, child, place, place_from, places_from}
use Rattle.sap_process.specs.Proc.{Proc, nil, parallel, replicated, act, test, lookup}
use Rattle.sap_process.specs.Sites.{Above, Site, above_of, scope_below, sites}
use Rattle.sap_nodes.specs.HeadNodes.{Node, fact, head_nodes}
use Rattle.sap_nodes.specs.declared.part.Part.{Part}
use Rattle.sap_other_nodes.specs.OtherFacts.{Differ, IsEarlier, IsFirstOther, StandsAt}
use Rattle.sap_other_nodes.specs.code.FactSearches.{Numbered, action_facts, at_path, differs, head_facts, most, numbered, or_else, process_at, seek}
use Rattle.sap_other_nodes.proofs.FactNodes.{AreTested, IsFound, IsMiss, differ_by, head_found, same_fact, tested}

-- at no node of these places stands one that differs
abbrev pub NoneIn : Node → List Site → Type 0
NoneIn told ss = (s : Site) → Contains ss s → (m : ℕ) (n : Node) → slice_get (head_nodes s.body) m ≡ Some n → ¬ Differ told n

-- the places are cut at the one with the first that differs
pub record IsCut (told : Node) (ss : List Site) (path : List ℕ) (k : ℕ) : Type 0 where
  pub before : List Site
  pub site : Site
  pub behind : List Site
  pub cut : ss ≡ before ++ site ∷ behind
  pub path_is : site.path ≡ path
  pub node : Node
  pub is : slice_get (head_nodes site.body) k ≡ Some node
  pub differs : Differ told node
  pub none_before : NoneIn told before
  pub none_front : (m : ℕ) (n : Node) → m < k → slice_get (head_nodes site.body) m ≡ Some n → ¬ Differ told n

-- the answer says it, where its number is below the greatest
abbrev pub IsFirstIn : Node → List Site → Option (List ℕ × ℕ) → Type 0
IsFirstIn told ss None = NoneIn told ss
IsFirstIn told ss (Some x) = x.1 < most → IsCut told ss x.0 x.1

pub none_both : (told : Node) (xs ys : List Site) → NoneIn told xs → NoneIn told ys → NoneIn told (xs ++ ys)
none_both told xs ys f g s c = elim (Contains-append_cases xs ys s c) [ inl h ↦ f s h | inr h ↦ g s h ]

pub first_both : (told : Node) (xs ys : List Site) (x y : Option (List ℕ × ℕ)) → IsFirstIn told xs x → IsFirstIn told ys y → IsFirstIn told (xs ++ ys) (or_else x y)
first_both told xs ys None None f g = none_both told xs ys f g
first_both told xs ys None (Some y) f g = λ l. later (g l)
  where
    later : IsCut told ys y.0 y.1 → IsCut told (xs ++ ys) y.0 y.1
    later h = record {
      before = xs ++ h.before;
      site = h.site;
      behind = h.behind;
      cut = ap (λ (zs : List Site). xs ++ zs) h.cut ∙ sym (append_assoc xs h.before (h.site ∷ h.behind));
      path_is = h.path_is;
      node = h.node;
      is = h.is;
      differs = h.differs;
      none_before = none_both told xs h.before f h.none_before;
      none_front = h.none_front;
    }
first_both told xs ys (Some x) y f g = λ l. sooner (f l)
  where
    sooner : IsCut told xs x.0 x.1 → IsCut told (xs ++ ys) x.0 x.1
    sooner h = record {
      before = h.before;
      site = h.site;
      behind = h.behind ++ ys;
      cut = ap (λ (zs : List Site). zs ++ ys) h.cut ∙ append_assoc h.before (h.site ∷ h.behind) ys;
      path_is = h.path_is;
      node = h.node;
      is = h.is;
      differs = h.differs;
      none_before = h.none_before;
      none_front = h.none_front;
    }

-- at one place

pub passing : (a : Part) (f : Fact) (n : Node) (t : AreTested (fact a f) n) → differs a f t.other_part t.other_item ≡ true
passing a f n t =
    let same = same_fact a t.part f t.item t.told_is in
    subst (λ (z : Part). differs z f t.other_part t.other_item ≡ true) (sym same.0)
    (subst (λ (z : Fact). differs t.part z t.other_part t.other_item ≡ true) (sym same.1) t.passes)

none_at_head : (a : Part) (f : Fact) (s : Site) → IsMiss (λ (x : Numbered). differs a f x.part x.fact) 0 (head_nodes s.body) → NoneIn (fact a f) (s ∷ [])
none_at_head a f s h u c m n e d =
    let t = tested (fact a f) n d in
    let same : s ≡ u = item_cases s u c in
    let there : slice_get (head_nodes s.body) m ≡ Some (fact t.other_part t.other_item) = ap (λ (z : Site). slice_get (head_nodes z.body) m) same ∙ e ∙ ap Some t.other_is in
    let fails : differs a f t.other_part t.other_item ≡ false = h m t.other_part t.other_item there in
    let passes : differs a f t.other_part t.other_item ≡ true = passing a f n t in cc

pub first_at_head : (a : Part) (f : Fact) (s : Site) → (o : Option Numbered) → IsFound (λ (x : Numbered). differs a f x.part x.fact) 0 (head_nodes s.body) o
    → IsFirstIn (fact a f) (s ∷ []) (option_map (at_path s.path) o)
first_at_head a f s None h = none_at_head a f s h
first_at_head a f s (Some x) h = λ l. record {
  before = [];
  site = s;
  behind = [];
  cut = refl;
  path_is = refl;
  node = fact x.part x.fact;
  is = subst (λ k. slice_get (head_nodes s.body) k ≡ Some (fact x.part x.fact)) (sym (number l)) h.is;
  differs = differ_by a x.part f x.fact h.passes;
  none_before = λ u c. absurd (let few = c.1 in omega (arith, few));
  none_front = λ m n less. front m n (let same : x.node ≡ h.index = number l in omega (arith, less, same));
}
  where
    number : x.node < most → x.node ≡ h.index
    number l = let e = h.number in omega (arith, l, e)

    front : (m : ℕ) (n : Node) → m < h.index → slice_get (head_nodes s.body) m ≡ Some n → ¬ Differ (fact a f) n
    front m n less e d =
        let t = tested (fact a f) n d in
        let fails : differs a f t.other_part t.other_item ≡ false = h.first m t.other_part t.other_item less (e ∙ ap Some t.other_is) in
        let passes : differs a f t.other_part t.other_item ≡ true = passing a f n t in cc

-- a place without facts
no_facts_at : (a : Part) (f : Fact) (s : Site) → head_facts s.body ≡ [] → IsFirstIn (fact a f) (s ∷ []) None
no_facts_at a f s e =
    first_at_head a f s None (subst (λ xs. IsFound (λ (x : Numbered). differs a f x.part x.fact) 0 (head_nodes s.body) (find (λ (x : Numbered). differs a f x.part x.fact) xs)) e
    (head_found (λ (x : Numbered). differs a f x.part x.fact) s.body))

-- the places from one on

seek_two : (a : Part) (f : Fact) (s : Site) (xs ys : List Site) (x y : Option (List ℕ × ℕ)) → head_facts s.body ≡ [] → IsFirstIn (fact a f) xs x → IsFirstIn (fact a f) ys y
    → IsFirstIn (fact a f) (s ∷ (xs ++ ys)) (or_else x y)
seek_two a f s xs ys x y e g h = first_both (fact a f) (s ∷ []) (xs ++ ys) None (or_else x y) (no_facts_at a f s e) (first_both (fact a f) xs ys x y g h)

-- what the code looks for is what differs
abbrev pub LooksFor : (Numbered → Bool) → Part → Fact → Type 0
LooksFor b a f = (x : Numbered) → b x ≡ differs a f x.part x.fact

found_by : (b : Numbered → Bool) (a : Part) (f : Fact) → LooksFor b a f → (ns : List Node) (o : Option Numbered) → IsFound b 0 ns o → IsFound (λ (x : Numbered). differs a f x.part x.fact) 0 ns o
found_by b a f same ns None h = λ i c g e. sym (same (numbered (min (0 + i) most) c g)) ∙ h i c g e
found_by b a f same ns (Some y) h = record {
  index = h.index;
  is = h.is;
  number = h.number;
  passes = sym (same y) ∙ h.passes;
  first = λ i c g l e. sym (same (numbered (min (0 + i) most) c g)) ∙ h.first i c g l e;
}

pub seek_is : (b : Numbered → Bool) (a : Part) (f : Fact) → LooksFor b a f → (p : Proc) (path : List ℕ) (u : Above)
    → IsFirstIn (fact a f) (places_from scope_below path u p) (seek b path p)
seek_is b a f same nil path u = no_facts_at a f (place path u nil) refl
seek_is b a f same (parallel p q) path u =
    seek_two a f (place path u (parallel p q)) (places_from scope_below (path ++ 1 ∷ []) (scope_below u (parallel p q) 1) p) (places_from scope_below (path ++ 2 ∷ []) (scope_below u (parallel p q) 2) q)
    (seek b (path ++ 1 ∷ []) p) (seek b (path ++ 2 ∷ []) q) refl
    (seek_is b a f same p (path ++ 1 ∷ []) (scope_below u (parallel p q) 1)) (seek_is b a f same q (path ++ 2 ∷ []) (scope_below u (parallel p q) 2))
seek_is b a f same (replicated p) path u =
    first_both (fact a f) (place path u (replicated p) ∷ []) (places_from scope_below (path ++ 1 ∷ []) (scope_below u (replicated p) 1) p)
    None (seek b (path ++ 1 ∷ []) p) (no_facts_at a f (place path u (replicated p)) refl) (seek_is b a f same p (path ++ 1 ∷ []) (scope_below u (replicated p) 1))
seek_is b a f same (act x p) path u =
    first_both (fact a f) (place path u (act x p) ∷ []) (places_from scope_below (path ++ 1 ∷ []) (scope_below u (act x p) 1) p)
    (option_map (at_path path) (find b (action_facts x))) (seek b (path ++ 1 ∷ []) p)
    (first_at_head a f (place path u (act x p)) (find b (action_facts x))
    (found_by b a f same (head_nodes (act x p)) (find b (action_facts x)) (head_found b (act x p))))
    (seek_is b a f same p (path ++ 1 ∷ []) (scope_below u (act x p) 1))
seek_is b a f same (test t v p q) path u =
    seek_two a f (place path u (test t v p q)) (places_from scope_below (path ++ 1 ∷ []) (scope_below u (test t v p q) 1) p) (places_from scope_below (path ++ 2 ∷ []) (scope_below u (test t v p q) 2) q)
    (seek b (path ++ 1 ∷ []) p) (seek b (path ++ 2 ∷ []) q) refl
    (seek_is b a f same p (path ++ 1 ∷ []) (scope_below u (test t v p q) 1)) (seek_is b a f same q (path ++ 2 ∷ []) (scope_below u (test t v p q) 2))
seek_is b a f same (lookup t x p q) path u =
    seek_two a f (place path u (lookup t x p q)) (places_from scope_below (path ++ 1 ∷ []) (scope_below u (lookup t x p q) 1) p) (places_from scope_below (path ++ 2 ∷ []) (scope_below u (lookup t x p q) 2) q)
    (seek b (path ++ 1 ∷ []) p) (seek b (path ++ 2 ∷ []) q) refl
    (seek_is b a f same p (path ++ 1 ∷ []) (scope_below u (lookup t x p q) 1)) (seek_is b a f same q (path ++ 2 ∷ []) (scope_below u (lookup t x p q) 2))

-- the places of a process by their paths, and in order

abbrev pub root : Proc → Site
root p = place [] (above_of [] 0) p

pub record AreOrdered (p : Proc) : Type 0 where
  pub by_path : (s : Site) → Contains (sites p) s → place_from scope_below (Some (root p)) s.path ≡ Some s
  pub listed : (path : List ℕ) (s : Site) → place_from scope_below (Some (root p)) path ≡ Some s → Contains (sites p) s
  pub path : (path : List ℕ) (s : Site) → place_from scope_below (Some (root p)) path ≡ Some s → s.path ≡ path
  pub in_order : (i j : ℕ) (s t : Site) → i < j → slice_get (sites p) i ≡ Some s → slice_get (sites p) j ≡ Some t → IsBefore s.path t.path
  pub not_itself : (v : List ℕ) → ¬ IsBefore v v
  pub ordered : (v w : List ℕ) → IsBefore v w ⊎ ((v ≡ w) ⊎ IsBefore w v)
  pub onward : (v w x : List ℕ) → IsBefore v w → IsBefore w x → IsBefore v x

some_site : (s t : Site) → ◌≡◌ {A = Option Site} (Some s) (Some t) → s ≡ t
some_site s t e = cc

-- what stands behind a place in the list
got_here : {X : Type 0} (xs ys : List X) (x : X) → slice_get (xs ++ x ∷ ys) (length xs) ≡ Some x
got_here [] ys x = refl
got_here (z ∷ xs) ys x = got_here xs ys x

got_behind : {X : Type 0} (xs ys : List X) (x y : X) → Contains ys y → (j : ℕ) × (length xs < j) × (slice_get (xs ++ x ∷ ys) j ≡ Some y)
got_behind [] ys x y c = let r = got_contained ys y c in (suc r.0, omega arith, r.1)
got_behind (z ∷ xs) ys x y c = let r = got_behind xs ys x y c in (suc r.0, (let l = r.1 in omega (arith, l)), r.2)

-- the cut is at the first one
pub cut_first : (p : Proc) → AreOrdered p → (told : Node) (path : List ℕ) (k : ℕ) → IsCut told (sites p) path k → IsFirstOther p told path k
cut_first p o told path k h = record {
  node = h.node;
  stands = record { site = h.site; stands = here; path_is = h.path_is; is = h.is };
  differs = h.differs;
  first = λ v m n e s d. earlier v m n e s d (Contains-append_cases h.before (h.site ∷ h.behind) s.site (subst (λ ss. Contains ss s.site) h.cut s.stands));
}
  where
    at_cut : slice_get (sites p) (length h.before) ≡ Some h.site
    at_cut = ap (λ ss. slice_get ss (length h.before)) h.cut ∙ got_here h.before h.behind h.site

    here : Contains (sites p) h.site
    here = contains_got (sites p) h.site (length h.before) at_cut

    later : (s : Site) → Contains h.behind s → IsBefore path s.path
    later s c =
        let r = got_behind h.before h.behind h.site s c in
        subst (λ v. IsBefore v s.path) h.path_is
        (o.in_order (length h.before) r.0 h.site s r.1 at_cut (ap (λ ss. slice_get ss r.0) h.cut ∙ r.2))

    at_same : (v : List ℕ) (m : ℕ) (n : Node) → IsEarlier v m path k → (s : StandsAt p v m n) → h.site ≡ s.site → ¬ Differ told n
    at_same v m n (inl b) s e = absurd (o.not_itself path (subst (λ w. IsBefore w path) (sym s.path_is ∙ ap (λ (z : Site). z.path) (sym e) ∙ h.path_is) b))
    at_same v m n (inr b) s e = h.none_front m n b.1 (ap (λ (z : Site). slice_get (head_nodes z.body) m) e ∙ s.is)

    at_later : (v : List ℕ) (m : ℕ) → IsEarlier v m path k → IsBefore path v → ⊥
    at_later v m (inl b) a = o.not_itself path (o.onward path v path a b)
    at_later v m (inr b) a = o.not_itself path (subst (IsBefore path) b.0 a)

    earlier : (v : List ℕ) (m : ℕ) (n : Node) → IsEarlier v m path k → (s : StandsAt p v m n) → Differ told n → Contains h.before s.site ⊎ Contains (h.site ∷ h.behind) s.site → ⊥
    earlier v m n e s d (inl c) = h.none_before s.site c m n s.is d
    earlier v m n e s d (inr c) = elim (cons_cases h.site h.behind s.site c) [
      | inl g ↦ at_same v m n e s g d
      | inr g ↦ at_later v m e (subst (IsBefore path) s.path_is (later s.site g))
    ]

-- the process to which a path leads

process_from : (path pre : List ℕ) (u : Above) (o : Option Proc) → process_at o path ≡ option_map (λ (s : Site). s.body) (place_from scope_below (option_map (place pre u) o) path)
process_from path pre u None = refl
process_from [] pre u (Some p) = refl
process_from (e ∷ path) pre u (Some p) = process_from path (pre ++ e ∷ []) (scope_below u p e) (child p e)

pub process_is : (p : Proc) (path : List ℕ) → process_at (Some p) path ≡ option_map (λ (s : Site). s.body) (place_from scope_below (Some (root p)) path)
process_is p path = process_from path [] (above_of [] 0) (Some p)
