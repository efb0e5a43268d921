-- What the code answers of facts that differ, and the laws of them.
use Rattle.std.proofs.Common.{◌≡◌, ℕ, zero, suc, ◌+◌, ◌<◌, List, [], ◌∷◌, ◌++◌, Option, Some, None, Result, Ok, Err, Bool, true, false, inl, inr, arith, refl, sym, ap, subst, ◌∙◌}
use Rattle.std.specs.Prelude.{◌⊎◌, Contains, IfOk, IfSome, MatchOption, min, nat_eq, slice_get, take, option_map}
use Rattle.std.specs.List.{flat_map}
use Rattle.std.proofs.lemmas.Bool.Decides.{Decides-eqb}
use Rattle.std.proofs.lemmas.List.Elements.{Contains-append_cases, Contains-append_left, Contains-append_right}
use Rattle.sap_terms.specs.Signature.{Sig}
use Rattle.sap_terms.specs.declared.mem.Mem.{Mem}
use Rattle.sap_terms.specs.declared.fact.Fact.{Fact}
use Rattle.sap_terms.proofs.PlainLaws.Items.{contains_got, got_contained, first_item, later_item, cons_cases, item_cases}
use Rattle.sap_process.specs.Action.{event, embedded}
use Rattle.sap_process.specs.Flaws.{HasOtherArity, HasOtherForm}
use Rattle.sap_process.specs.Heads.{shown_facts, stored_facts}
use Rattle.sap_process.specs.Places.{IsBefore, place_from}
use Rattle.sap_process.specs.Proc.{Proc, act}
use Rattle.sap_process.specs.Sites.{Site, above_of, scope_below, sites}
use Rattle.sap_process.specs.declared.flaw.Flaw.TheVariants.{FactClash}
use Rattle.sap_nodes.specs.FlawNodes.{Differs, IsClashingNode, IsNodeOf, shown_of, stored_of}
use Rattle.sap_nodes.specs.HeadNodes.{Node, binder, variable, public, fresh, symbol, fact, fact_nodes, facts_nodes, trees_nodes, head_nodes}
use Rattle.sap_nodes.specs.declared.part.Part.{Part}
use Rattle.sap_nodes.specs.declared.part.Part.TheVariants.{Pattern, Shown, Given}
use Rattle.sap_terms.specs.Tree.{trees_of}
use Rattle.sap_other_nodes.specs.OtherFacts.{Differ, IsEarlier, IsFirstOther, IsOtherFact, StandsAt}
use Rattle.sap_other_nodes.specs.code.FactSearches.{Numbered, differs, fact_with, most, place_of, process_at, seek}
use Rattle.sap_other_nodes.specs.declared.other_fact.OtherFact.{OtherFact}
use Rattle.sap_other_nodes.proofs.FactNodes.{AreTested, IsFound, differ_by, head_found, tested}
use Rattle.sap_other_nodes.proofs.FactPlaces.{AreOrdered, IsCut, IsFirstIn, LooksFor, NoneIn, cut_first, none_both, passing, process_is, root, seek_is}

one_of : (m n : Node) → ◌≡◌ {A = Option Node} (Some m) (Some n) → m ≡ n
one_of m n e = cc

some_site : (s t : Site) → ◌≡◌ {A = Option Site} (Some s) (Some t) → s ≡ t
some_site s t e = cc

-- a node stands at the place to which the path leads
pub place_of_node : (p : Proc) → AreOrdered p → (path : List ℕ) (k : ℕ) (n : Node) → (s : StandsAt p path k n) → place_from scope_below (Some (root p)) path ≡ Some s.site
place_of_node p o path k n s = subst (λ v. place_from scope_below (Some (root p)) v ≡ Some s.site) s.path_is (o.by_path s.site s.stands)

one_node : (p : Proc) → AreOrdered p → (path : List ℕ) (k : ℕ) (m n : Node) → StandsAt p path k m → StandsAt p path k n → m ≡ n
one_node p o path k m n s t =
    let same : s.site ≡ t.site = some_site s.site t.site (sym (place_of_node p o path k m s) ∙ place_of_node p o path k n t) in
    one_of m n (sym s.is ∙ ap (λ (z : Site). slice_get (head_nodes z.body) k) same ∙ t.is)

-- the fact with a node

abbrev has_node : ℕ → Numbered → Bool
has_node k x = nat_eq x.node k

no_fact_there : (k : ℕ) (q : Proc) → k < most → fact_with k (Some q) ≡ None → (a : Part) (f : Fact) → slice_get (head_nodes q) k ≡ Some (fact a f) → ⊥
no_fact_there k q l e a f h =
    let miss : IsFound (has_node k) 0 (head_nodes q) None = subst (IsFound (has_node k) 0 (head_nodes q)) e (head_found (has_node k) q) in
    let fails : nat_eq (min (0 + k) most) k ≡ false = miss k a f h in
    let number : min (0 + k) most ≡ k = omega (arith, l) in
    let passes : nat_eq (min (0 + k) most) k ≡ true = (Decides-eqb (min (0 + k) most) k).1 number in cc

fact_there : (k : ℕ) (q : Proc) (x : Numbered) → k < most → fact_with k (Some q) ≡ Some x → slice_get (head_nodes q) k ≡ Some (fact x.part x.fact)
fact_there k q x l e = subst (λ i. slice_get (head_nodes q) i ≡ Some (fact x.part x.fact)) index hit.is
  where
    hit : IsFound (has_node k) 0 (head_nodes q) (Some x)
    hit = subst (IsFound (has_node k) 0 (head_nodes q)) e (head_found (has_node k) q)

    index : hit.index ≡ k
    index =
        let same : x.node ≡ k = (Decides-eqb x.node k).0 hit.passes in
        let number : x.node ≡ min (0 + hit.index) most = hit.number in
        omega (arith, l, same, number)

-- the code's answer
abbrev pub IsAnswer : Proc → List ℕ → ℕ → Option OtherFact → Type 0
IsAnswer p path k r = MatchOption r ((v : List ℕ) (m : ℕ) → IsOtherFact p path k v m → ⊥) (λ f. IsOtherFact p path k f.path f.node)

-- both clauses of a call
pub answered_both : (p : Proc) (path : List ℕ) (k : ℕ) (r : Result (Option OtherFact) Mem) (P Q : Option OtherFact → Type 0) → ((o : Option OtherFact) → P o → Q o → IsAnswer p path k o)
    → IfOk r P → IfOk r Q → IfOk r (IsAnswer p path k)
answered_both p path k (Ok o) P Q f g h = f o g h
answered_both p path k (Err e) P Q f g h = tt

pub not_a_fact : (p : Proc) → AreOrdered p → (path : List ℕ) (k : ℕ) → k < most → fact_with k (process_at (Some p) path) ≡ None → IsAnswer p path k None
not_a_fact p o path k l e v m h =
    let t = tested h.told h.first.node h.first.differs in
    let there : process_at (Some p) path ≡ Some h.stands.site.body = process_is p path ∙ ap (option_map (λ (s : Site). s.body)) (place_of_node p o path k h.told h.stands) in
    no_fact_there k h.stands.site.body l (ap (fact_with k) (sym there) ∙ e) t.part t.item (h.stands.is ∙ ap Some t.told_is)

-- the fact stands there
fact_stands : (p : Proc) → AreOrdered p → (path : List ℕ) (k : ℕ) (x : Numbered) → k < most → fact_with k (process_at (Some p) path) ≡ Some x → StandsAt p path k (fact x.part x.fact)
fact_stands p o path k x l e = by (place_from scope_below (Some (root p)) path) refl
  where
    by : (r : Option Site) → place_from scope_below (Some (root p)) path ≡ r → StandsAt p path k (fact x.part x.fact)
    by None h =
        let none : process_at (Some p) path ≡ None = process_is p path ∙ ap (option_map (λ (s : Site). s.body)) h in
        let never : ◌≡◌ {A = Option Numbered} None (Some x) = ap (fact_with k) (sym none) ∙ e in absurd (cc)
    by (Some s) h =
        let there : process_at (Some p) path ≡ Some s.body = process_is p path ∙ ap (option_map (λ (z : Site). z.body)) h in
        record {
          site = s;
          stands = o.listed path s h;
          path_is = o.path path s h;
          is = fact_there k s.body x l (ap (fact_with k) (sym there) ∙ e);
        }

pub answered : (p : Proc) → AreOrdered p → (path : List ℕ) (k : ℕ) (x : Numbered) (b : Numbered → Bool) → k < most → fact_with k (process_at (Some p) path) ≡ Some x → LooksFor b x.part x.fact
    → (r : Option OtherFact) → option_map place_of r ≡ seek b [] p → IfSome r (λ f. f.node < most) → IsAnswer p path k r
answered p o path k x b l e same r is small = by r refl small
  where
    told : Node
    told = fact x.part x.fact

    stands : StandsAt p path k told
    stands = fact_stands p o path k x l e

    first : IsFirstIn told (sites p) (option_map place_of r)
    first = subst (IsFirstIn told (sites p)) (sym is) (seek_is b x.part x.fact same p [] (above_of [] 0))

    by : (z : Option OtherFact) → r ≡ z → IfSome z (λ f. f.node < most) → IsAnswer p path k z
    by None h none_small = λ v m g.
        let none : IsFirstIn told (sites p) None = subst (λ (z : Option OtherFact). IsFirstIn told (sites p) (option_map place_of z)) h first in
        let is_told : g.told ≡ told = one_node p o path k g.told told g.stands stands in
        none g.first.stands.site g.first.stands.stands m g.first.node g.first.stands.is (subst (λ z. Differ z g.first.node) is_told g.first.differs)
    by (Some f) h less =
        let there : IsFirstIn told (sites p) (Some (place_of f)) = subst (λ (z : Option OtherFact). IsFirstIn told (sites p) (option_map place_of z)) h first in
        record {
          told = told;
          stands = stands;
          first = cut_first p o told f.path f.node (there less);
        }

-- one at most

order : (a b : ℕ) → (a < b) ⊎ ((a ≡ b) ⊎ (b < a))
order zero zero = inr (inl refl)
order zero (suc b) = inl (omega arith)
order (suc a) zero = inr (inr (omega arith))
order (suc a) (suc b) = elim (order a b) [ inl l ↦ inl (omega (arith, l)) | inr r ↦ elim r [ inl e ↦ inr (inl (ap suc e)) | inr l ↦ inr (inr (omega (arith, l))) ] ]

-- of two nodes one is earlier, or they are one
in_order : (p : Proc) → AreOrdered p → (v w : List ℕ) (m n : ℕ) → IsEarlier v m w n ⊎ (((v ≡ w) × (m ≡ n)) ⊎ IsEarlier w n v m)
in_order p o v w m n = by (o.ordered v w) (order m n)
  where
    by : IsBefore v w ⊎ ((v ≡ w) ⊎ IsBefore w v) → (m < n) ⊎ ((m ≡ n) ⊎ (n < m)) → IsEarlier v m w n ⊎ (((v ≡ w) × (m ≡ n)) ⊎ IsEarlier w n v m)
    by (inl b) r = inl (inl b)
    by (inr (inr b)) r = inr (inr (inl b))
    by (inr (inl e)) (inl l) = inl (inr (e, l))
    by (inr (inl e)) (inr (inl f)) = inr (inl (e, f))
    by (inr (inl e)) (inr (inr l)) = inr (inr (inr (sym e, l)))

pub one_other : (p : Proc) → AreOrdered p → (path : List ℕ) (k : ℕ) (v w : List ℕ) (m n : ℕ) → IsOtherFact p path k v m → IsOtherFact p path k w n → (v ≡ w) × (m ≡ n)
one_other p o path k v w m n f g = elim (in_order p o v w m n) [
  | inl e ↦ absurd (g.first.first v m f.first.node e f.first.stands (subst (λ z. Differ z f.first.node) told f.first.differs))
  | inr r ↦ elim r [
    | inl e ↦ e
    | inr e ↦ absurd (f.first.first w n g.first.node e g.first.stands (subst (λ z. Differ z g.first.node) (sym told) g.first.differs))
  ]
]
  where
    told : f.told ≡ g.told
    told = one_node p o path k f.told g.told f.stands g.stands

-- where a fact differs from another there is a first one, which is that or earlier

-- the first of a list that passes, or none does
abbrev IsFirstPass : {X : Type 0} → (X → Bool) → List X → ℕ → Type 0
IsFirstPass {X} pass xs k = (x : X) × (slice_get xs k ≡ Some x) × (pass x ≡ true) × ((i : ℕ) (y : X) → i < k → slice_get xs i ≡ Some y → pass y ≡ false)

abbrev NonePasses : {X : Type 0} → (X → Bool) → List X → Type 0
NonePasses {X} pass xs = (i : ℕ) (y : X) → slice_get xs i ≡ Some y → pass y ≡ false

some_item : {X : Type 0} (x y : X) → ◌≡◌ {A = Option X} (Some x) (Some y) → x ≡ y
some_item x y e = cc

first_pass : {X : Type 0} (pass : X → Bool) (xs : List X) → ((k : ℕ) × IsFirstPass pass xs k) ⊎ NonePasses pass xs
first_pass pass [] = inr (λ i y e. cc)
first_pass {X} pass (x ∷ xs) = by (pass x) refl (first_pass pass xs)
  where
    front : pass x ≡ false → (k : ℕ) → ((i : ℕ) (y : X) → i < k → slice_get xs i ≡ Some y → pass y ≡ false) → (i : ℕ) (y : X) → i < suc k → slice_get (x ∷ xs) i ≡ Some y → pass y ≡ false
    front e k h zero y l g = subst (λ z. pass z ≡ false) (some_item x y g) e
    front e k h (suc i) y l g = h i y (omega (arith, l)) g

    none : pass x ≡ false → NonePasses pass xs → NonePasses pass (x ∷ xs)
    none e h zero y g = subst (λ z. pass z ≡ false) (some_item x y g) e
    none e h (suc i) y g = h i y g

    by : (b : Bool) → pass x ≡ b → ((k : ℕ) × IsFirstPass pass xs k) ⊎ NonePasses pass xs → ((k : ℕ) × IsFirstPass pass (x ∷ xs) k) ⊎ NonePasses pass (x ∷ xs)
    by true e r = inl (0, (x, refl, e, λ i y l g. absurd (omega (arith, l))))
    by false e (inl h) = inl (suc h.0, (h.1.0, h.1.1, h.1.2, front e h.0 h.1.3))
    by false e (inr h) = inr (none e h)

-- the node is a fact that differs from this one
abbrev passes_node : Part → Fact → Node → Bool
passes_node a f (fact b h) = differs a f b h
passes_node a f _ = false

node_differs : (a : Part) (f : Fact) (n : Node) → passes_node a f n ≡ true → Differ (fact a f) n
node_differs a f (fact b h) e = differ_by a b f h e
node_differs a f _ e = cc

node_passes : (a : Part) (f : Fact) (n : Node) → Differ (fact a f) n → passes_node a f n ≡ true
node_passes a f n d = let t = tested (fact a f) n d in subst (λ z. passes_node a f z ≡ true) (sym t.other_is) (passing a f n t)

cut_or_none : (a : Part) (f : Fact) (ss : List Site) → ((path : List ℕ) × (k : ℕ) × IsCut (fact a f) ss path k) ⊎ NoneIn (fact a f) ss
cut_or_none a f [] = inr (λ s c. absurd (let few = c.1 in omega (arith, few)))
cut_or_none a f (s ∷ ss) = by (first_pass (passes_node a f) (head_nodes s.body)) (cut_or_none a f ss)
  where
    fails : (n : Node) → passes_node a f n ≡ false → ¬ Differ (fact a f) n
    fails n e d = let t : passes_node a f n ≡ true = node_passes a f n d in cc

    here : NonePasses (passes_node a f) (head_nodes s.body) → NoneIn (fact a f) (s ∷ [])
    here h u c m n e d = fails n (h m n (ap (λ (z : Site). slice_get (head_nodes z.body) m) (item_cases s u c) ∙ e)) d

    by : ((k : ℕ) × IsFirstPass (passes_node a f) (head_nodes s.body) k) ⊎ NonePasses (passes_node a f) (head_nodes s.body)
        → ((path : List ℕ) × (k : ℕ) × IsCut (fact a f) ss path k) ⊎ NoneIn (fact a f) ss
        → ((path : List ℕ) × (k : ℕ) × IsCut (fact a f) (s ∷ ss) path k) ⊎ NoneIn (fact a f) (s ∷ ss)
    by (inl h) r = inl (
      s.path,
      h.0,
      record {
        before = [];
        site = s;
        behind = ss;
        cut = refl;
        path_is = refl;
        node = h.1.0;
        is = h.1.1;
        differs = node_differs a f h.1.0 h.1.2;
        none_before = λ u c. absurd (let few = c.1 in omega (arith, few));
        none_front = λ m n l e. fails n (h.1.3 m n l e);
      },
    )
    by (inr h) (inl r) = inl (
      r.0,
      r.1,
      record {
        before = s ∷ r.2.before;
        site = r.2.site;
        behind = r.2.behind;
        cut = ap (λ (xs : List Site). s ∷ xs) r.2.cut;
        path_is = r.2.path_is;
        node = r.2.node;
        is = r.2.is;
        differs = r.2.differs;
        none_before = none_both (fact a f) (s ∷ []) r.2.before (here h) r.2.none_before;
        none_front = r.2.none_front;
      },
    )
    by (inr h) (inr r) = inr (none_both (fact a f) (s ∷ []) ss (here h) r)

earliest : (p : Proc) → AreOrdered p → (told : Node) (w : List ℕ) (j : ℕ) (n : Node) → StandsAt p w j n → Differ told n → (v : List ℕ) × (m : ℕ) × IsFirstOther p told v m
earliest p o told w j n t d = by (cut_or_none x.part x.item (sites p))
  where
    x : AreTested told n
    x = tested told n d

    by : ((path : List ℕ) × (k : ℕ) × IsCut (fact x.part x.item) (sites p) path k) ⊎ NoneIn (fact x.part x.item) (sites p) → (v : List ℕ) × (m : ℕ) × IsFirstOther p told v m
    by (inl h) = (h.0, h.1, subst (λ z. IsFirstOther p z h.0 h.1) (sym x.told_is) (cut_first p o (fact x.part x.item) h.0 h.1 h.2))
    by (inr h) = absurd (h t.site t.stands j n t.is (subst (λ z. Differ z n) x.told_is d))

pub first_of : (p : Proc) → AreOrdered p → (path : List ℕ) (k : ℕ) (told : Node) → StandsAt p path k told → (w : List ℕ) (j : ℕ) (n : Node) → StandsAt p w j n → Differ told n
    → (v : List ℕ) × (m : ℕ) × IsOtherFact p path k v m × (IsEarlier v m w j ⊎ ((v ≡ w) × (m ≡ j)))
first_of p o path k told s w j n t d = by (earliest p o told w j n t d)
  where
    by : (v : List ℕ) × (m : ℕ) × IsFirstOther p told v m → (v : List ℕ) × (m : ℕ) × IsOtherFact p path k v m × (IsEarlier v m w j ⊎ ((v ≡ w) × (m ≡ j)))
    by r = (
      r.0,
      r.1,
      record { told = told; stands = s; first = r.2 },
      elim (in_order p o r.0 w r.1 j) [
        | inl e ↦ inl e
        | inr e ↦ elim e [ inl f ↦ inr f | inr f ↦ absurd (r.2.first w j n f t d) ]
      ],
    )

-- what is a node, or earlier, is earlier than what that is earlier than
up_to : (p : Proc) → AreOrdered p → (v : List ℕ) (m : ℕ) (w : List ℕ) (j : ℕ) (x : List ℕ) (k : ℕ) → IsEarlier v m w j ⊎ ((v ≡ w) × (m ≡ j)) → IsEarlier w j x k → IsEarlier v m x k
up_to p o v m w j x k (inl (inl b)) (inl c) = inl (o.onward v w x b c)
up_to p o v m w j x k (inl (inl b)) (inr c) = inl (subst (λ z. IsBefore v z) c.0 b)
up_to p o v m w j x k (inl (inr b)) (inl c) = inl (subst (λ z. IsBefore z x) (sym b.0) c)
up_to p o v m w j x k (inl (inr b)) (inr c) = inr (b.0 ∙ c.0, (let l = b.1 in let r = c.1 in omega (arith, l, r)))
up_to p o v m w j x k (inr b) (inl c) = inl (subst (λ z. IsBefore z x) (sym b.0) c)
up_to p o v m w j x k (inr b) (inr c) = inr (b.0 ∙ c.0, (let l = b.1 in let r = c.1 in omega (arith, l, r)))

-- a fact that is shown, taken or added at a head is one of its nodes

among_facts : (a : Part) (fs : List Fact) (f : Fact) → Contains fs f → Contains (facts_nodes a fs) (fact a f)
among_facts a [] f c = absurd (let few = c.1 in omega (arith, few))
among_facts a (h ∷ fs) f c = elim (cons_cases h fs f c) [
  | inl e ↦ subst (λ z. Contains (facts_nodes a (h ∷ fs)) (fact a z)) e (first_item (fact a h) (trees_nodes a (trees_of h.args) ++ facts_nodes a fs))
  | inr k ↦ Contains-append_right (fact_nodes a h) (facts_nodes a fs) (fact a f) (among_facts a fs f k)
]

shown_there : (p : Proc) (f : Fact) → Contains (shown_facts p) f → Contains (head_nodes p) (fact Shown f)
shown_there (act (event h) p) f c = subst (λ z. Contains (fact_nodes Shown h) (fact Shown z)) (item_cases h f c) (first_item (fact Shown h) (trees_nodes Shown (trees_of h.args)))
shown_there (act (embedded l e r) p) f c =
    Contains-append_right (facts_nodes Pattern l) (facts_nodes Shown e ++ facts_nodes Given r) (fact Shown f)
    (Contains-append_left (facts_nodes Shown e) (facts_nodes Given r) (fact Shown f) (among_facts Shown e f c))
shown_there _ f c = absurd (let few = c.1 in omega (arith, few))

-- the node, and that it is stored
record IsStored (p : Proc) (f : Fact) : Type 0 where
  node : Node
  there : Contains (head_nodes p) node
  is : Contains (stored_of node) f

stored_there : (p : Proc) (f : Fact) → Contains (stored_facts p) f → IsStored p f
stored_there (act (embedded l e r) p) f c = elim (Contains-append_cases l r f c) [
  | inl h ↦ record {
    node = fact Pattern f;
    there = Contains-append_left (facts_nodes Pattern l) (facts_nodes Shown e ++ facts_nodes Given r) (fact Pattern f) (among_facts Pattern l f h);
    is = first_item f [];
  }
  | inr h ↦ record {
    node = fact Given f;
    there = Contains-append_right (facts_nodes Pattern l) (facts_nodes Shown e ++ facts_nodes Given r) (fact Given f)
        (Contains-append_right (facts_nodes Shown e) (facts_nodes Given r) (fact Given f) (among_facts Given r f h));
    is = first_item f [];
  }
]
stored_there _ f c = absurd (let few = c.1 in omega (arith, few))

in_flat : {X Y : Type 0} (f : X → List Y) (xs : List X) (y : Y) → Contains (flat_map f xs) y → (x : X) × Contains xs x × Contains (f x) y
in_flat f [] y c = absurd (let few = c.1 in omega (arith, few))
in_flat {X} {Y} f (x ∷ xs) y c = by (Contains-append_cases (f x) (flat_map f xs) y c) (λ h. in_flat f xs y h)
  where
    by : Contains (f x) y ⊎ Contains (flat_map f xs) y → (Contains (flat_map f xs) y → (z : X) × Contains xs z × Contains (f z) y)
        → (z : X) × Contains (x ∷ xs) z × Contains (f z) y
    by (inl h) later = (x, first_item x xs, h)
    by (inr h) later = let found = later h in (found.0, later_item x xs found.0 found.1, found.2)

-- what is among the first so many stands there, at a lesser index
among_first : {X : Type 0} (xs : List X) (k : ℕ) (x : X) → Contains (take k xs) x → (j : ℕ) × (j < k) × (slice_get xs j ≡ Some x)
among_first [] zero x c = absurd (let few = c.1 in omega (arith, few))
among_first [] (suc k) x c = absurd (let few = c.1 in omega (arith, few))
among_first (y ∷ xs) zero x c = absurd (let few = c.1 in omega (arith, few))
among_first (y ∷ xs) (suc k) x c = elim (cons_cases y (take k xs) x c) [
  | inl e ↦ (0, omega arith, ap Some e)
  | inr h ↦ let r = among_first xs k x h in (suc r.0, (let l = r.1 in omega (arith, l)), r.2)
]

-- another fact from which the node differs stands earlier
record StandsEarlier (p : Proc) (path : List ℕ) (k : ℕ) (told : Node) : Type 0 where
  other : List ℕ
  index : ℕ
  node : Node
  stands : StandsAt p other index node
  differs : Differ told node
  earlier : IsEarlier other index path k

clash_earlier : (p : Proc) → AreOrdered p → (i : ℕ) (s : Site) (k : ℕ) (n : Node) → slice_get (sites p) i ≡ Some s → slice_get (head_nodes s.body) k ≡ Some n
    → IsClashingNode (take i (sites p)) (take k (head_nodes s.body)) n → StandsEarlier p s.path k n
clash_earlier p o i s k n e h c = by n refl c
  where
    -- a node that contains the fact, at a place before
    before : (b : Site) → Contains (take i (sites p)) b → (m : Node) → Contains (head_nodes b.body) m → Differ n m → StandsEarlier p s.path k n
    before b among m there d =
        let j = among_first (sites p) i b among in
        let l = got_contained (head_nodes b.body) m there in
        record {
          other = b.path;
          index = l.0;
          node = m;
          stands = record { site = b; stands = contains_got (sites p) b j.0 j.2; path_is = refl; is = l.1 };
          differs = d;
          earlier = inl (o.in_order j.0 i b s j.1 j.2 e);
        }

    front : (m : Node) → Contains (take k (head_nodes s.body)) m → Differ n m → StandsEarlier p s.path k n
    front m among d =
        let j = among_first (head_nodes s.body) k m among in
        record {
          other = s.path;
          index = j.0;
          node = m;
          stands = record { site = s; stands = contains_got (sites p) s i e; path_is = refl; is = j.2 };
          differs = d;
          earlier = inr (refl, j.1);
        }

    shown_differ : (f : Fact) (d : Differs HasOtherArity (flat_map (λ (b : Site). shown_facts b.body) (take i (sites p)) ++ flat_map shown_of (take k (head_nodes s.body))) f) (m : Node)
        → n ≡ fact Shown f → Contains (shown_of m) d.other → Differ n m
    shown_differ f d m is there = inl (record {
      fact = f;
      is = subst (λ z. Contains (shown_of z) f) (sym is) (first_item f []);
      another = d.other;
      is_another = there;
      name = d.name;
      differs = d.differs;
    })

    stored_differ : (f : Fact) (d : Differs HasOtherForm (flat_map (λ (b : Site). stored_facts b.body) (take i (sites p)) ++ flat_map stored_of (take k (head_nodes s.body))) f) (m : Node)
        → Contains (stored_of n) f → Contains (stored_of m) d.other → Differ n m
    stored_differ f d m is there = inr (record { fact = f; is = is; another = d.other; is_another = there; name = d.name; differs = d.differs })

    shown : (f : Fact) → n ≡ fact Shown f → Differs HasOtherArity (flat_map (λ (b : Site). shown_facts b.body) (take i (sites p)) ++ flat_map shown_of (take k (head_nodes s.body))) f → StandsEarlier p s.path k n
    shown f is d = elim (Contains-append_cases (flat_map (λ (b : Site). shown_facts b.body) (take i (sites p))) (flat_map shown_of (take k (head_nodes s.body))) d.other d.stands) [
      | inl g ↦ (let r = in_flat (λ (b : Site). shown_facts b.body) (take i (sites p)) d.other g in before r.0 r.1 (fact Shown d.other) (shown_there r.0.body d.other r.2) (shown_differ f d (fact Shown d.other) is (first_item d.other [])))
      | inr g ↦ (let r = in_flat shown_of (take k (head_nodes s.body)) d.other g in front r.0 r.1 (shown_differ f d r.0 is r.2))
    ]

    stored : (f : Fact) → Contains (stored_of n) f → Differs HasOtherForm (flat_map (λ (b : Site). stored_facts b.body) (take i (sites p)) ++ flat_map stored_of (take k (head_nodes s.body))) f → StandsEarlier p s.path k n
    stored f is d = elim (Contains-append_cases (flat_map (λ (b : Site). stored_facts b.body) (take i (sites p))) (flat_map stored_of (take k (head_nodes s.body))) d.other d.stands) [
      | inl g ↦ (let r = in_flat (λ (b : Site). stored_facts b.body) (take i (sites p)) d.other g in let t = stored_there r.0.body d.other r.2 in before r.0 r.1 t.node t.there (stored_differ f d t.node is t.is))
      | inr g ↦ (let r = in_flat stored_of (take k (head_nodes s.body)) d.other g in front r.0 r.1 (stored_differ f d r.0 is r.2))
    ]

    by : (m : Node) → n ≡ m → IsClashingNode (take i (sites p)) (take k (head_nodes s.body)) m → StandsEarlier p s.path k n
    by (fact Shown f) is d = shown f is d
    by (fact Pattern f) is d = stored f (subst (λ z. Contains (stored_of z) f) (sym is) (first_item f [])) d
    by (fact Given f) is d = stored f (subst (λ z. Contains (stored_of z) f) (sym is) (first_item f [])) d
    by (binder v) is d = absurd d
    by (variable v) is d = absurd d
    by (public v) is d = absurd d
    by (fresh v) is d = absurd d
    by (symbol a v j) is d = absurd d

pub some_other : (p : Proc) → AreOrdered p → (g : Sig) (i : ℕ) (s : Site) (k : ℕ) → slice_get (sites p) i ≡ Some s → IsNodeOf g (take i (sites p)) s FactClash k
    → (v : List ℕ) × (m : ℕ) × IsOtherFact p s.path k v m × IsEarlier v m s.path k
some_other p o g i s k e h =
    let c = clash_earlier p o i s k h.here.node e h.here.stands h.here.flaw in
    let here : StandsAt p s.path k h.here.node = record { site = s; stands = contains_got (sites p) s i e; path_is = refl; is = h.here.stands } in
    let r = first_of p o s.path k h.here.node here c.other c.index c.node c.stands c.differs in
    (r.0, r.1, r.2, up_to p o r.0 r.1 c.other c.index s.path k r.3 c.earlier)

-- by hand

pub told_by_hand : (p : Proc) → AreOrdered p → (path : List ℕ) (k : ℕ) (x : Numbered) (v : List ℕ) (m : ℕ) → k < most → fact_with k (process_at (Some p) path) ≡ Some x
    → seek (λ (y : Numbered). differs x.part x.fact y.part y.fact) [] p ≡ Some (v, m) → m < most → IsOtherFact p path k v m
told_by_hand p o path k x v m l e h small = record {
  told = fact x.part x.fact;
  stands = fact_stands p o path k x l e;
  first = cut_first p o (fact x.part x.fact) v m (there small);
}
  where
    there : IsFirstIn (fact x.part x.fact) (sites p) (Some (v, m))
    there = subst (IsFirstIn (fact x.part x.fact) (sites p)) h (seek_is (λ (y : Numbered). differs x.part x.fact y.part y.fact) x.part x.fact (λ y. refl) p [] (above_of [] 0))

pub not_by_hand : (p : Proc) → AreOrdered p → (path : List ℕ) (k : ℕ) (x : Numbered) (v : List ℕ) (m : ℕ) → k < most → fact_with k (process_at (Some p) path) ≡ Some x
    → seek (λ (y : Numbered). differs x.part x.fact y.part y.fact) [] p ≡ Some (v, m) → m < most → (w : List ℕ) (n : ℕ) → ((w ≡ v) × (n ≡ m) → ⊥) → IsOtherFact p path k w n → ⊥
not_by_hand p o path k x v m l e h small w n apart f = apart (one_other p o path k w v n m f (told_by_hand p o path k x v m l e h small))

pub no_other_by_hand : (p : Proc) → AreOrdered p → (path : List ℕ) (k : ℕ) (x : Numbered) → k < most → fact_with k (process_at (Some p) path) ≡ Some x
    → seek (λ (y : Numbered). differs x.part x.fact y.part y.fact) [] p ≡ None → (v : List ℕ) (m : ℕ) → IsOtherFact p path k v m → ⊥
no_other_by_hand p o path k x l e h = answered p o path k x (λ (y : Numbered). differs x.part x.fact y.part y.fact) l e (λ y. refl) None (sym h) tt

pub no_fact_by_hand : (p : Proc) → AreOrdered p → (path : List ℕ) (k : ℕ) → k < most → fact_with k (process_at (Some p) path) ≡ None → (v : List ℕ) (m : ℕ) → IsOtherFact p path k v m → ⊥
no_fact_by_hand p o path k l e = not_a_fact p o path k l e
