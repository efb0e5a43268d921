-- The search through the nodes of a head tells the first fact that clashes.
use Rattle.std.proofs.Common.{◌≡◌, ℕ, zero, suc, ◌+◌, ◌<◌, ◌≤◌, List, [], ◌∷◌, ◌++◌, Bool, true, false, Some, None, inl, inr, arith, map, refl, sym, ap, subst, ◌∙◌}
use Rattle.std.specs.Prelude.{◌⊎◌, min, slice_get, take, if◌then◌else◌}
use Rattle.std.specs.List.{flat_map}
use Rattle.std.proofs.lemmas.List.{append_assoc, append-nil, map-append}
use Rattle.std.proofs.lemmas.List.Concat.{flat_map-append}
use Rattle.sap_terms.specs.Signature.{Sig}
use Rattle.sap_terms.specs.Tree.{Tree}
use Rattle.sap_terms.specs.declared.fact.Fact.{Fact}
use Rattle.sap_terms.specs.declared.var.Var.{Var}
use Rattle.sap_process.specs.Action.{new, out, send, input, receive, event, insert, delete, lock, unlock, embedded}
use Rattle.sap_process.specs.Heads.{stored_facts, shown_facts}
use Rattle.sap_process.specs.Proc.{Proc, nil, parallel, replicated, act, test, lookup}
use Rattle.sap_process.specs.Sites.{Site, message_var, above_of, scope_below, sites_in}
use Rattle.sap_process.specs.declared.flaw.Flaw.TheVariants.{FactClash}
use Rattle.sap_nodes.specs.HeadNodes as node
use Rattle.sap_nodes.specs.HeadNodes.{Node, tree_nodes, head_nodes}
use Rattle.sap_nodes.specs.FlawNodes.{stored_of, shown_of, IsClashingNode, IsTold}
use Rattle.sap_nodes.specs.code.Clashes.{noted_of, is_clashing, node_noted, clash_met_all, clash_head, clash_along, noted_all, nothing_noted}
use Rattle.sap_nodes.specs.code.Searches.{most, visited, after, at_first, found_at}
use Rattle.sap_nodes.specs.declared.clash.Facts.{Facts}
use Rattle.sap_nodes.specs.declared.clash.Met.{Met}
use Rattle.sap_nodes.specs.declared.finding.Search.{Search}
use Rattle.sap_nodes.specs.declared.part.Part.{Part}
use Rattle.sap_nodes.specs.declared.part.Part.TheVariants.{Pattern, Shown, Given}
use Rattle.sap_nodes.proofs.KeptFacts.{Kept, kept_none, kept_more, kept_all, clash_sound, clash_complete}
use Rattle.sap_nodes.proofs.MetFacts.{clash-append, passed, tree_passed}
use Rattle.sap_nodes.proofs.WayBefore.{listed, reaches}

abbrev stored_before : List Site → List Fact
stored_before before = flat_map (λ (b : Site). stored_facts b.body) before

abbrev shown_before : List Site → List Fact
shown_before before = flat_map (λ (b : Site). shown_facts b.body) before

-- the facts that are noted stand at these places and at these nodes
pub record Stand (before : List Site) (front : List Node) (m h : Met) : Type 0 where
  pub stored : Kept m (map (noted_of true) (stored_before before ++ flat_map stored_of front))
  pub shown : Kept h (map (noted_of false) (shown_before before ++ flat_map shown_of front))

-- a node more with a fact, or without one
more_with : (both : Bool) (φ : Node → List Fact) (before : List Fact) (front : List Node) (n : Node) (f : Fact) → φ n ≡ f ∷ []
    → map (noted_of both) (before ++ flat_map φ front) ++ noted_of both f ∷ [] ≡ map (noted_of both) (before ++ flat_map φ (front ++ n ∷ []))
more_with both φ before front n f e =
    sym (map-append (noted_of both) (before ++ flat_map φ front) (f ∷ []))
    ∙ ap (map (noted_of both)) (append_assoc before (flat_map φ front) (f ∷ [])
    ∙ ap (λ fs. before ++ (flat_map φ front ++ fs)) (sym (append-nil (φ n) ∙ e))
    ∙ ap (λ fs. before ++ fs) (sym (flat_map-append φ front (n ∷ []))))

more_without : (both : Bool) (φ : Node → List Fact) (before : List Fact) (front : List Node) (n : Node) → φ n ≡ []
    → map (noted_of both) (before ++ flat_map φ front) ≡ map (noted_of both) (before ++ flat_map φ (front ++ n ∷ []))
more_without both φ before front n e =
    ap (λ fs. map (noted_of both) (before ++ fs))
    (sym (append-nil (flat_map φ front)) ∙ ap (λ fs. flat_map φ front ++ fs) (sym (append-nil (φ n) ∙ e)) ∙ sym (flat_map-append φ front (n ∷ [])))

abbrev pub state : Met → Met → Search → Facts
state m h s = record { stored = m; shown = h; search = s }

-- what is noted goes on with the nodes
stand_more : (before : List Site) (front : List Node) (m h : Met) (s : Search) → Stand before front m h → (n : Node)
    → Stand before (front ++ n ∷ []) (node_noted (state m h s) n).stored (node_noted (state m h s) n).shown
stand_more before front m h s st (node.fact Shown f) = record {
  stored = subst (Kept m) (more_without true stored_of (stored_before before) front (node.fact Shown f) refl) st.stored;
  shown = subst (Kept _) (more_with false shown_of (shown_before before) front (node.fact Shown f) f refl) (kept_more h _ st.shown (noted_of false f));
}
stand_more before front m h s st (node.fact Pattern f) = record {
  stored = subst (Kept _) (more_with true stored_of (stored_before before) front (node.fact Pattern f) f refl) (kept_more m _ st.stored (noted_of true f));
  shown = subst (Kept h) (more_without false shown_of (shown_before before) front (node.fact Pattern f) refl) st.shown;
}
stand_more before front m h s st (node.fact Given f) = record {
  stored = subst (Kept _) (more_with true stored_of (stored_before before) front (node.fact Given f) f refl) (kept_more m _ st.stored (noted_of true f));
  shown = subst (Kept h) (more_without false shown_of (shown_before before) front (node.fact Given f) refl) st.shown;
}
stand_more before front m h s st (node.variable v) = record {
  stored = subst (Kept m) (more_without true stored_of (stored_before before) front (node.variable v) refl) st.stored;
  shown = subst (Kept h) (more_without false shown_of (shown_before before) front (node.variable v) refl) st.shown;
}
stand_more before front m h s st (node.binder v) = record {
  stored = subst (Kept m) (more_without true stored_of (stored_before before) front (node.binder v) refl) st.stored;
  shown = subst (Kept h) (more_without false shown_of (shown_before before) front (node.binder v) refl) st.shown;
}
stand_more before front m h s st (node.public k) = record {
  stored = subst (Kept m) (more_without true stored_of (stored_before before) front (node.public k) refl) st.stored;
  shown = subst (Kept h) (more_without false shown_of (shown_before before) front (node.public k) refl) st.shown;
}
stand_more before front m h s st (node.fresh k) = record {
  stored = subst (Kept m) (more_without true stored_of (stored_before before) front (node.fresh k) refl) st.stored;
  shown = subst (Kept h) (more_without false shown_of (shown_before before) front (node.fresh k) refl) st.shown;
}
stand_more before front m h s st (node.symbol a f k) = record {
  stored = subst (Kept m) (more_without true stored_of (stored_before before) front (node.symbol a f k) refl) st.stored;
  shown = subst (Kept h) (more_without false shown_of (shown_before before) front (node.symbol a f k) refl) st.shown;
}

-- the test tells of each node whether it clashes
tells : (before : List Site) (front : List Node) (m h : Met) (s : Search) → Stand before front m h → (n : Node)
    → (is_clashing (state m h s) n ≡ true → IsClashingNode before front n) × (IsClashingNode before front n → is_clashing (state m h s) n ≡ true)
tells before front m h s st (node.fact Shown f) = (
  λ e. clash_sound false (shown_before before ++ flat_map shown_of front) f (sym (st.shown.tells (noted_of false f)) ∙ e),
  λ r. st.shown.tells (noted_of false f) ∙ clash_complete false (shown_before before ++ flat_map shown_of front) f r,
)
tells before front m h s st (node.fact Pattern f) = (
  λ e. clash_sound true (stored_before before ++ flat_map stored_of front) f (sym (st.stored.tells (noted_of true f)) ∙ e),
  λ r. st.stored.tells (noted_of true f) ∙ clash_complete true (stored_before before ++ flat_map stored_of front) f r,
)
tells before front m h s st (node.fact Given f) = (
  λ e. clash_sound true (stored_before before ++ flat_map stored_of front) f (sym (st.stored.tells (noted_of true f)) ∙ e),
  λ r. st.stored.tells (noted_of true f) ∙ clash_complete true (stored_before before ++ flat_map stored_of front) f r,
)
tells before front m h s st (node.variable v) = (λ e. cc, λ r. absurd r)
tells before front m h s st (node.binder v) = (λ e. cc, λ r. absurd r)
tells before front m h s st (node.public k) = (λ e. cc, λ r. absurd r)
tells before front m h s st (node.fresh k) = (λ e. cc, λ r. absurd r)
tells before front m h s st (node.symbol a f k) = (λ e. cc, λ r. absurd r)

-- where one is found, the search stays
stays : (m h : Met) (at : ℕ) (ns : List Node) → (clash_met_all (state m h (record { at = at; found = true })) ns).search ≡ record { at = at; found = true }
stays m h at [] = refl
stays m h at (n ∷ ns) =
    stays (node_noted (state m h (record { at = at; found = true })) n).stored (node_noted (state m h (record { at = at; found = true })) n).shown at ns

-- the first that clashes is found, where so many stand in front of them
record Hit (before : List Site) (front ns : List Node) (at : ℕ) (r : Search) : Type 0 where
  place : ℕ
  node : Node
  stands : slice_get ns place ≡ Some node
  such : IsClashingNode before (front ++ take place ns) node
  first : (j : ℕ) (m : Node) → j < place → slice_get ns j ≡ Some m → IsClashingNode before (front ++ take j ns) m → ⊥
  found : r.found ≡ true
  counted : r.at ≡ min (at + place) most

-- none clashes, and none is found
record Miss (before : List Site) (front ns : List Node) (r : Search) : Type 0 where
  each : (j : ℕ) (m : Node) → slice_get ns j ≡ Some m → IsClashingNode before (front ++ take j ns) m → ⊥
  found : r.found ≡ false

one_of : (m n : Node) → Some m ≡ Some n → m ≡ n
one_of m n e = cc

abbrev Outcome : List Site → List Node → List Node → ℕ → Search → Type 0
Outcome before front ns at r = Hit before front ns at r ⊎ Miss before front ns r

-- one node on
ahead : (before : List Site) (front : List Node) (n : Node) (ns : List Node) (at : ℕ) (r : Search) → (IsClashingNode before front n → ⊥)
    → Outcome before (front ++ n ∷ []) ns (min (at + 1) most) r → Outcome before front (n ∷ ns) at r
ahead before front n ns at r clean = by where
  shifted : (j : ℕ) (x : Node) → IsClashingNode before (front ++ take (suc j) (n ∷ ns)) x → IsClashingNode before ((front ++ n ∷ []) ++ take j ns) x
  shifted j x = subst (λ (ms : List Node). IsClashingNode before ms x) (sym (append_assoc front (n ∷ []) (take j ns)))

  back : (j : ℕ) (x : Node) → IsClashingNode before ((front ++ n ∷ []) ++ take j ns) x → IsClashingNode before (front ++ take (suc j) (n ∷ ns)) x
  back j x = subst (λ (ms : List Node). IsClashingNode before ms x) (append_assoc front (n ∷ []) (take j ns))

  itself : (x : Node) → n ≡ x → IsClashingNode before (front ++ []) x → ⊥
  itself x e c =
      clean (subst (λ (z : Node). IsClashingNode before front z) (sym e) (subst (λ (ms : List Node). IsClashingNode before ms x) (append-nil front) c))

  earlier : (h : Hit before (front ++ n ∷ []) ns (min (at + 1) most) r) (j : ℕ) (x : Node) → j < suc h.place → slice_get (n ∷ ns) j ≡ Some x
      → IsClashingNode before (front ++ take j (n ∷ ns)) x → ⊥
  earlier h zero x l e c = itself x (one_of n x e) c
  earlier h (suc j) x l e c = h.first j x (omega (arith, l)) e (shifted j x c)

  each : (h : Miss before (front ++ n ∷ []) ns r) (j : ℕ) (x : Node) → slice_get (n ∷ ns) j ≡ Some x → IsClashingNode before (front ++ take j (n ∷ ns)) x → ⊥
  each h zero x e c = itself x (one_of n x e) c
  each h (suc j) x e c = h.each j x e (shifted j x c)

  by : Outcome before (front ++ n ∷ []) ns (min (at + 1) most) r → Outcome before front (n ∷ ns) at r
  by (inl h) = inl (record {
    place = suc h.place;
    node = h.node;
    stands = h.stands;
    such = back h.place h.node h.such;
    first = earlier h;
    found = h.found;
    counted = let c = h.counted in omega (arith, c);
  })
  by (inr h) = inr (record { each = each h; found = h.found })

-- what is noted behind a node
abbrev next_stored : Met → Met → ℕ → Node → Met
next_stored m h at n = (node_noted (state m h (record { at = at; found = false })) n).stored

abbrev next_shown : Met → Met → ℕ → Node → Met
next_shown m h at n = (node_noted (state m h (record { at = at; found = false })) n).shown

outcome : (before : List Site) (front ns : List Node) (m h : Met) (at : ℕ) → at ≤ most → Stand before front m h
    → Outcome before front ns at (clash_met_all (state m h (record { at = at; found = false })) ns).search
outcome before front [] m h at l st = inr (record { each = λ j x e. cc; found = refl })
outcome before front (n ∷ ns) m h at l st =
    by (is_clashing (state m h (record { at = at; found = false })) n) refl
    (outcome before (front ++ n ∷ []) ns (next_stored m h at n) (next_shown m h at n) (min (at + 1) most) (omega arith)
    (stand_more before front m h (record { at = at; found = false }) st n))
  where
    test : (is_clashing (state m h (record { at = at; found = false })) n ≡ true → IsClashingNode before front n)
        × (IsClashingNode before front n → is_clashing (state m h (record { at = at; found = false })) n ≡ true)
    test = tells before front m h (record { at = at; found = false }) st n

    here : is_clashing (state m h (record { at = at; found = false })) n ≡ true → Hit before front (n ∷ ns) at (record { at = at; found = true })
    here e = record {
      place = 0;
      node = n;
      stands = refl;
      such = subst (λ (ms : List Node). IsClashingNode before ms n) (sym (append-nil front)) (test.0 e);
      first = λ j x k. absurd (omega (arith, k));
      found = refl;
      counted = omega arith;
    }

    by : (b : Bool) → is_clashing (state m h (record { at = at; found = false })) n ≡ b
        → Outcome before (front ++ n ∷ []) ns (min (at + 1) most) (clash_met_all (state (next_stored m h at n) (next_shown m h at n) (record { at = min (at + 1) most; found = false })) ns).search
        → Outcome before front (n ∷ ns) at (clash_met_all (state (next_stored m h at n) (next_shown m h at n) (visited b (record { at = at; found = false }))) ns).search
    by true e later = inl (subst (Hit before front (n ∷ ns) at) (sym (stays (next_stored m h at n) (next_shown m h at n) at ns)) (here e))
    by false e later =
        ahead before front n ns at (clash_met_all (state (next_stored m h at n) (next_shown m h at n) (record { at = min (at + 1) most; found = false })) ns).search
        (λ c. let t = test.1 c in cc) later

-- of the nodes of a head
told_nodes : (g : Sig) (before : List Site) (s : Site) (m h : Met) → Stand before [] m h
    → IsTold g before s FactClash (found_at (clash_met_all (state m h at_first) (head_nodes s.body)).search)
told_nodes g before s m h st = by (outcome before [] (head_nodes s.body) m h 0 (omega arith) st) where
  by : Outcome before [] (head_nodes s.body) 0 (clash_met_all (state m h at_first) (head_nodes s.body)).search
      → IsTold g before s FactClash (found_at (clash_met_all (state m h at_first) (head_nodes s.body)).search)
  by (inl k) = subst (IsTold g before s FactClash)
      (sym (ap (λ (b : Bool). if b then Some (clash_met_all (state m h at_first) (head_nodes s.body)).search.at else None) k.found)) (
        k.place,
        record {
          here = record { node = k.node; stands = k.stands; flaw = k.such };
          first = λ j l f. k.first j f.node l f.stands f.flaw;
        },
        let c = k.counted in omega (arith, c),
      )
  by (inr k) = subst (IsTold g before s FactClash)
      (sym (ap (λ (b : Bool). if b then Some (clash_met_all (state m h at_first) (head_nodes s.body)).search.at else None) k.found))
      (λ j f. k.each j f.here.node f.here.stands f.here.flaw)

-- heads without facts
none_found : (at : ℕ) (ns : List Node) → (after (λ (n : Node). false) (record { at = at; found = false }) ns).found ≡ false
none_found at [] = refl
none_found at (n ∷ ns) = none_found (min (at + 1) most) ns

nothing : (a : Search) → a.found ≡ false → None ≡ found_at a
nothing a e = sym (ap (λ (b : Bool). if b then Some a.at else None) e)

no_fact : (m h : Met) (part : Part) (t : Tree) → None ≡ found_at (clash_met_all (state m h at_first) (tree_nodes part t)).search
no_fact m h part t =
    nothing (after (λ (n : Node). false) at_first (tree_nodes part t)) (none_found 0 (tree_nodes part t))
    ∙ sym (ap (λ (a : Facts). found_at a.search) (tree_passed (state m h at_first) part t))

no_facts : (m h : Met) (part other : Part) (t u : Tree) → None ≡ found_at (clash_met_all (state m h at_first) (tree_nodes part t ++ tree_nodes other u)).search
no_facts m h part other t u =
    nothing (after (λ (n : Node). false) (after (λ (n : Node). false) at_first (tree_nodes part t)) (tree_nodes other u)) (two 0 (tree_nodes part t))
    ∙ sym (ap (λ (a : Facts). found_at a.search)
    (clash-append (state m h at_first) (tree_nodes part t) (tree_nodes other u)
    ∙ ap (λ a. clash_met_all a (tree_nodes other u)) (tree_passed (state m h at_first) part t)
    ∙ tree_passed (passed (state m h at_first) (tree_nodes part t)) other u))
  where
    two : (at : ℕ) (ns : List Node)
        → (after (λ (n : Node). false) (after (λ (n : Node). false) (record { at = at; found = false }) ns) (tree_nodes other u)).found ≡ false
    two at [] = none_found at (tree_nodes other u)
    two at (n ∷ ns) = two (min (at + 1) most) ns

with_binder : (m h : Met) (t : Tree) (x : Var) → None ≡ found_at (clash_met_all (state m h at_first) (tree_nodes Given t ++ node.binder x ∷ [])).search
with_binder m h t x =
    nothing (after (λ (n : Node). false) (after (λ (n : Node). false) at_first (tree_nodes Given t)) (node.binder x ∷ [])) (two 0 (tree_nodes Given t))
    ∙ sym (ap (λ (a : Facts). found_at a.search)
    (clash-append (state m h at_first) (tree_nodes Given t) (node.binder x ∷ [])
    ∙ ap (λ a. clash_met_all a (node.binder x ∷ [])) (tree_passed (state m h at_first) Given t)))
  where
    two : (at : ℕ) (ns : List Node)
        → (after (λ (n : Node). false) (after (λ (n : Node). false) (record { at = at; found = false }) ns) (node.binder x ∷ [])).found ≡ false
    two at [] = refl
    two at (n ∷ ns) = two (min (at + 1) most) ns

met_head : (m h : Met) (p : Proc) → found_at (clash_head (state m h at_first) p).search ≡ found_at (clash_met_all (state m h at_first) (head_nodes p)).search
met_head m h nil = refl
met_head m h (parallel p q) = refl
met_head m h (replicated p) = refl
met_head m h (act (new x) p) = refl
met_head m h (act (out t) p) = no_fact m h Given t
met_head m h (act (send t u) p) = no_facts m h Given Given t u
met_head m h (act (input t) p) = no_fact m h Pattern t
met_head m h (act (receive t u) p) = no_facts m h Given Pattern t u
met_head m h (act (event f) p) = refl
met_head m h (act (insert t u) p) = no_facts m h Given Given t u
met_head m h (act (delete t) p) = no_fact m h Given t
met_head m h (act (lock t n) p) = no_fact m h Given t
met_head m h (act (unlock t n) p) = no_fact m h Given t
met_head m h (act (embedded l e r) p) = refl
met_head m h (test t u p q) = no_facts m h Given Given t u
met_head m h (lookup t x p q) = with_binder m h t (message_var x)

pub clash_told : (g : Sig) (before : List Site) (s : Site) (m h : Met) → Stand before [] m h
    → IsTold g before s FactClash (found_at (clash_head (state m h at_first) s.body).search)
clash_told g before s m h st = subst (IsTold g before s FactClash) (sym (met_head m h s.body)) (told_nodes g before s m h st)

-- the facts of a place more
more_of : (both : Bool) (φ : Site → List Fact) (before : List Site) (b : Site)
    → map (noted_of both) (flat_map φ before ++ []) ++ map (noted_of both) (φ b) ≡ map (noted_of both) (flat_map φ (before ++ b ∷ []) ++ [])
more_of both φ before b =
    sym (map-append (noted_of both) (flat_map φ before ++ []) (φ b))
    ∙ ap (map (noted_of both)) (ap (λ fs. fs ++ φ b) (append-nil (flat_map φ before)) ∙ ap (λ fs. flat_map φ before ++ fs) (sym (append-nil (φ b)))
    ∙ sym (flat_map-append φ before (b ∷ [])) ∙ sym (append-nil (flat_map φ (before ++ b ∷ []))))

stand_place : (before : List Site) (b : Site) (m h : Met) → Stand before [] m h
    → Stand (before ++ b ∷ []) [] (noted_all true m (stored_facts b.body)) (noted_all false h (shown_facts b.body))
stand_place before b m h st = record {
  stored = subst (Kept _) (more_of true (λ (s : Site). stored_facts s.body) before b) (kept_all true m _ st.stored (stored_facts b.body));
  shown = subst (Kept _) (more_of false (λ (s : Site). shown_facts s.body) before b) (kept_all false h _ st.shown (shown_facts b.body));
}

-- behind these places
listed_told : (g : Sig) (before bs : List Site) (x : Site) (m h : Met) → Stand before [] m h
    → IsTold g (before ++ bs) x FactClash (found_at (clash_head (listed (state m h at_first) bs) x.body).search)
listed_told g before [] x m h st =
    subst (λ (ss : List Site). IsTold g ss x FactClash (found_at (clash_head (state m h at_first) x.body).search)) (sym (append-nil before)) (clash_told g before x m h st)
listed_told g before (b ∷ bs) x m h st =
    subst (λ (ss : List Site). IsTold g ss x FactClash (found_at (clash_head (listed (state m h at_first) (b ∷ bs)) x.body).search)) (append_assoc before (b ∷ []) bs)
    (listed_told g (before ++ b ∷ []) bs x (noted_all true m (stored_facts b.body)) (noted_all false h (shown_facts b.body)) (stand_place before b m h st))

-- along a path
pub clash_found : (g : Sig) (scope : List Var) (p : Proc) (path : List ℕ) (k : ℕ) (s : Site) → slice_get (sites_in scope p) k ≡ Some s → s.path ≡ path
    → IsTold g (take k (sites_in scope p)) s FactClash (found_at (clash_along nothing_noted path p).search)
clash_found g scope p path k s e d =
    subst (IsTold g (take k (sites_in scope p)) s FactClash)
    (sym (ap (λ (a : Facts). found_at a.search) (reaches scope_below path [] (above_of scope 0) p nothing_noted k s e d)))
    (listed_told g [] (take k (sites_in scope p)) s _ _ (record { stored = kept_none; shown = kept_none }))
