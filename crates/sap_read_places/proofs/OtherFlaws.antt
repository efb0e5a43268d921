-- The other place of a flaw: one at most, one in each file that is refused for a flaw that has two, and what the code tells of it.
use Rattle.std.proofs.Common.{◌≡◌, ◌<◌, ◌≤◌, ◌-◌, ◌^◌, ℕ, zero, suc, List, [], ◌∷◌, ◌++◌, Option, Some, None, Ok, Err, length, take, min, refl, sym, ap, ◌∙◌, subst, arith}
use Rattle.std.specs.Prelude.{IfOk, IfSome, Result, slice_get}
use Rattle.std.proofs.lemmas.List.{length-append}
use Rattle.std.proofs.lemmas.Option.{slice_get_within}
use Rattle.sap_terms.specs.Signature.{Sig}
use Rattle.sap_terms.specs.declared.mem.Mem.{Mem}
use Rattle.sap_terms.specs.declared.var.Var.{Var}
use Rattle.sap_text.specs.declared.token.Token.{Token}
use Rattle.sap_process.specs.Places.{place}
use Rattle.sap_process.specs.Proc.{Proc}
use Rattle.sap_process.specs.Sites.{Site, above_of, scope_below, sites, sites_in}
use Rattle.sap_process.specs.declared.flaw.Flaw.{Flaw}
use Rattle.sap_process.specs.declared.flaw.Flaw.TheVariants.{FactClash, Rebound, SortClash}
use Rattle.sap_nodes.specs.FlawNodes.{IsNodeOf, IsTold}
use Rattle.sap_nodes.specs.HeadNodes.{head_nodes}
use Rattle.sap_nodes.specs.SpokenOf.{IsSpoken, of_itself}
use Rattle.sap_nodes.specs.declared.full.Spoken.{Spoken}
use Rattle.sap_origin.specs.Definitions.{located_definitions}
use Rattle.sap_origin.specs.Reached.{process_at, process_below}
use Rattle.sap_other_nodes.specs.OtherBinders.{IsBinderNode, IsBinderOf, IsBinderTold, IsBoundOn, IsOfBinding, bound_below, bound_here, on_the_way, outer}
use Rattle.sap_other_nodes.specs.OtherFacts.{IsEarlier, IsOtherFact}
use Rattle.sap_other_nodes.specs.declared.other_binder.Binder.{Binder}
use Rattle.sap_other_nodes.specs.declared.other_binder.Binder.TheVariants.{On, Outer}
use Rattle.sap_other_nodes.specs.declared.other_binder.OtherNode.{OtherNode}
use Rattle.sap_read.specs.declared.written.FileProcesses.{FileProcesses}
use Rattle.sap_read.specs.declared.written.WrittenFile.{WrittenFile}
use Rattle.sap_read_places.specs.declared.told.Told.{Told}
use Rattle.sap_read_places.specs.FlawPlaces.{IsNodeTold}
use Rattle.sap_read_places.specs.OtherFlawPlaces.{HasOtherNode, IsBoundBy, IsOtherNode}
use Rattle.sap_read_places.specs.code.FlawNodes.{IsNodeIn, Speaks, SpeaksOf, expansion_in, main_in}
use Rattle.sap_read_places.specs.code.OtherFlaws.{IsOnly, IsOtherAnswer, IsOtherSpoken, no_flaw, some_flaw}
use Rattle.sap_read_places.proofs.Along.{at_place}
use Rattle.sap_read_places.proofs.FlawOne.{OneNode}
use Rattle.sap_read_places.proofs.FlawSome.{SitesAtPaths}

some_same : {A : Type 0} {a b : A} → ◌≡◌ {A = Option A} (Some a) (Some b) → a ≡ b
some_same e = cc (e)

-- ---- the flaw's own node

-- of a node of a head
of_node : (node : OneNode) (g : Sig) (before : List Site) (s : Site) (w : Flaw) (f : Spoken) (n : ℕ) → (r : Option ℕ) × IsTold g before s w r × (Some f ≡ of_itself s.path r)
    → IsNodeOf g before s w n → f.node ≡ Some (min n (2 ^ 64 - 1))
of_node node g before s w f n (None, t, e) is = absurd (cc (e))
of_node node g before s w f n (Some k, t, e) is =
    ap (λ (x : Spoken). x.node) (some_same e)
    ∙ ap (λ (i : ℕ). Some i) (t.2 ∙ ap (λ (i : ℕ). min i (2 ^ 64 - 1)) (node g before s w t.0 n t.1 is))

pub spoken_node : (node : OneNode) (g : Sig) (p : Proc) (before : List Site) (s : Site) (w : Flaw) (f : Spoken) (n : ℕ) → HasOtherNode w → IsSpoken g [] p before s w (Some f)
    → IsNodeOf g before s w n → f.node ≡ Some (min n (2 ^ 64 - 1))
spoken_node node g p before s Rebound f n of h is = of_node node g before s Rebound f n h is
spoken_node node g p before s SortClash f n of h is = of_node node g before s SortClash f n h is
spoken_node node g p before s FactClash f n of h is = of_node node g before s FactClash f n h is
spoken_node node g p before s _ f n of h is = absurd of

-- it is there
told_node : (g : Sig) (before : List Site) (s : Site) (w : Flaw) (f : Spoken) → (r : Option ℕ) × IsTold g before s w r × (Some f ≡ of_itself s.path r) → (n : ℕ) × IsNodeOf g before s w n
told_node g before s w f (None, t, e) = absurd (cc (e))
told_node g before s w f (Some k, t, e) = (t.0, t.1)

pub its_node : (g : Sig) (p : Proc) (before : List Site) (s : Site) (w : Flaw) (f : Spoken) → HasOtherNode w → IsSpoken g [] p before s w (Some f) → (n : ℕ) × IsNodeOf g before s w n
its_node g p before s Rebound f of h = told_node g before s Rebound f h
its_node g p before s SortClash f of h = told_node g before s SortClash f h
its_node g p before s FactClash f of h = told_node g before s FactClash f h
its_node g p before s _ f of h = absurd of

pub has_other : (w : Flaw) (p : Proc) (s : Site) (n : ℕ) (v : List ℕ) (k : ℕ) → IsOtherNode w p s n v k → HasOtherNode w
has_other Rebound p s n v k h = tt
has_other SortClash p s n v k h = tt
has_other FactClash p s n v k h = tt
has_other _ p s n v k h = absurd h

-- ---- the other node: one at most

abbrev pub OneBinder : Type 0
OneBinder = (scope : List Var) (p : Proc) (s : Site) (k : ℕ) (b c : Binder) → IsBinderOf scope p s k b → IsBinderOf scope p s k c → b ≡ c

same_on : (f h : OtherNode) → On f ≡ On h → f ≡ h
same_on f h e = cc (e)

one_bound_by : OneBinder → (p : Proc) (s : Site) (n : ℕ) (v u : List ℕ) (j k : ℕ) → IsBoundBy p s n v j → IsBoundBy p s n u k → (v ≡ u) × (j ≡ k)
one_bound_by one p s n v u j k a b =
    let same = same_on a.binder b.binder (one [] p s n (On a.binder) (On b.binder) a.binds b.binds) in
    (a.path_is ∙ ap (λ (f : OtherNode). take f.depth s.path) same ∙ sym b.path_is, a.node_is ∙ ap (λ (f : OtherNode). f.node) same ∙ sym b.node_is)

abbrev pub OneFact : Type 0
OneFact = (p : Proc) (path : List ℕ) (k : ℕ) (v w : List ℕ) (m n : ℕ) → IsOtherFact p path k v m → IsOtherFact p path k w n → (v ≡ w) × (m ≡ n)

pub one_other_node : OneBinder → OneFact → (w : Flaw) (p : Proc) (s : Site) (n : ℕ) (v u : List ℕ) (j k : ℕ) → IsOtherNode w p s n v j → IsOtherNode w p s n u k → (v ≡ u) × (j ≡ k)
one_other_node one fact Rebound p s n v u j k a b = one_bound_by one p s n v u j k a b
one_other_node one fact SortClash p s n v u j k a b = one_bound_by one p s n v u j k a b
one_other_node one fact FactClash p s n v u j k a b = fact p s.path n v u j k a b
one_other_node one fact _ p s n v u j k a b = absurd a

-- ---- it is there

abbrev pub BinderInHead : Type 0
BinderInHead = (p : Proc) (e : ℕ) (n : List ℕ) (j : ℕ) → IsBinderNode p e n j → j < length (head_nodes p)

-- a place of the process with a node of this number
abbrev pub IsThere : Proc → List ℕ → ℕ → Type 0
IsThere p v k = (y : Proc) × (process_at p v ≡ Some y) × (k < length (head_nodes y))

bound_there : BinderInHead → {p : Proc} {way n : List ℕ} {d j : ℕ} → IsBoundOn p way n d j → IsThere p (take d way) j
bound_there head (bound_here {p = p} {e = e} {k = k} {n = n} b) = (p, refl, head p e n k b)
bound_there head (bound_below {q = q} {d = d} {path = path} none is b) =
    let r = bound_there head b in
    (r.0, subst (λ (v : Option Proc). process_below v (take d path) ≡ Some r.0) (sym is) r.1, r.2)

bound_within : {p : Proc} {way n : List ℕ} {d j : ℕ} → IsBoundOn p way n d j → d < length way
bound_within (bound_here b) = omega arith
bound_within (bound_below none is b) = let l = bound_within b in omega (arith, l)

-- as many digits of the path alone
front_take : (d : ℕ) (xs : List ℕ) (y : ℕ) → d ≤ length xs → take d (xs ++ y ∷ []) ≡ take d xs
front_take zero [] y l = refl
front_take zero (x ∷ xs) y l = refl
front_take (suc d) [] y l = absurd (omega (arith, l))
front_take (suc d) (x ∷ xs) y l = ap (λ zs. x ∷ zs) (front_take d xs y (omega (arith, l)))

less_node : (j k n : ℕ) → j < n → k ≡ min j (2 ^ 64 - 1) → k < n
less_node j k n low e = omega (arith, low, e)

on_there : BinderInHead → (p : Proc) (s : Site) (n : ℕ) (b : Binder) (f : OtherNode) → b ≡ On f → IsBinderOf [] p s n b → IsThere p (take f.depth s.path) f.node
on_there head p s n _ f e (outer has known) = absurd (cc (e))
on_there head p s n _ f e (on_the_way {f = h} {j = j} has unknown bound at) =
    let same : h ≡ f = same_on h f e in
    let way = bound_there head bound in
    let within = bound_within bound in
    let long = length-append s.path (1 ∷ []) in
    subst (λ (x : OtherNode). IsThere p (take x.depth s.path) x.node) same (
      way.0,
      subst (λ (v : List ℕ). process_at p v ≡ Some way.0) (front_take h.depth s.path 1 (omega (arith, within, long))) way.1,
      less_node j h.node (length (head_nodes way.0)) way.2 at,
    )

bound_by_there : BinderInHead → (p : Proc) (s : Site) (n : ℕ) (v : List ℕ) (k : ℕ) → IsBoundBy p s n v k → IsThere p v k
bound_by_there head p s n v k a =
    subst (λ (i : ℕ). IsThere p v i) (sym a.node_is)
    (subst (λ (u : List ℕ). IsThere p u a.binder.node) (sym a.path_is) (on_there head p s n (On a.binder) a.binder refl a.binds))

fact_there : SitesAtPaths → (p : Proc) (path : List ℕ) (n : ℕ) (v : List ℕ) (k : ℕ) → IsOtherFact p path n v k → IsThere p v k
fact_there at_paths p path n v k a =
    let x = a.first.stands in
    let at : process_at p x.site.path ≡ Some x.site.body = at_place scope_below (Some (place [] (above_of [] 0) p)) x.site.path x.site (at_paths p x.site x.stands) in
    (x.site.body, subst (λ (u : List ℕ). process_at p u ≡ Some x.site.body) x.path_is at, slice_get_within (head_nodes x.site.body) k a.first.node x.is)

pub other_there : BinderInHead → SitesAtPaths → (w : Flaw) (p : Proc) (s : Site) (n : ℕ) (v : List ℕ) (k : ℕ) → IsOtherNode w p s n v k → IsThere p v k
other_there head at_paths Rebound p s n v k a = bound_by_there head p s n v k a
other_there head at_paths SortClash p s n v k a = bound_by_there head p s n v k a
other_there head at_paths FactClash p s n v k a = fact_there at_paths p s.path n v k a
other_there head at_paths _ p s n v k a = absurd a

-- ---- and there is one

abbrev pub SomeBinder : Type 0
SomeBinder = (g : Sig) (before : List Site) (scope : List Var) (p : Proc) (i : ℕ) (s : Site) (w : Flaw) (k : ℕ) → slice_get (sites_in scope p) i ≡ Some s → IsOfBinding w
    → IsNodeOf g before s w k → (b : Binder) × IsBinderOf scope p s k b

nothing_outer : (p : Proc) (s : Site) (n : ℕ) (b : Binder) → b ≡ Outer → IsBinderOf [] p s n b → ⊥
nothing_outer p s n _ e (outer has known) = cc (known)
nothing_outer p s n _ e (on_the_way has unknown bound at) = cc (e)

bound_by : (p : Proc) (s : Site) (n : ℕ) (b : Binder) → IsBinderOf [] p s n b → (v : List ℕ) × (k : ℕ) × IsBoundBy p s n v k
bound_by p s n (On f) h = (take f.depth s.path, f.node, record { binder = f; binds = h; path_is = refl; node_is = refl })
bound_by p s n Outer h = absurd (nothing_outer p s n Outer refl h)

abbrev pub SomeFact : Type 0
SomeFact = (g : Sig) (p : Proc) (i : ℕ) (s : Site) (k : ℕ) → slice_get (sites p) i ≡ Some s → IsNodeOf g (take i (sites p)) s FactClash k
    → (v : List ℕ) × (m : ℕ) × IsOtherFact p s.path k v m × IsEarlier v m s.path k

pub some_other_node : SomeBinder → SomeFact → (g : Sig) (p : Proc) (i : ℕ) (s : Site) (w : Flaw) (n : ℕ) → slice_get (sites p) i ≡ Some s → HasOtherNode w
    → IsNodeOf g (take i (sites p)) s w n → (v : List ℕ) × (k : ℕ) × IsOtherNode w p s n v k
some_other_node some fact g p i s Rebound n there of is = let b = some g (take i (sites p)) [] p i s Rebound n there tt is in bound_by p s n b.0 b.1
some_other_node some fact g p i s SortClash n there of is = let b = some g (take i (sites p)) [] p i s SortClash n there tt is in bound_by p s n b.0 b.1
some_other_node some fact g p i s FactClash n there of is = let f = fact g p i s n there is in (f.0, f.1, f.2)
some_other_node some fact g p i s _ n there of is = absurd of

-- ---- what the code tells

module _ (one : OneBinder) (z : List ℕ) (ts : List Token) (p : FileProcesses) (q : Proc) (path : List ℕ) (number : ℕ) (scope : List Var) (empty : scope ≡ []) where
  -- what is told of the binder
  abbrev pub Binds : Option Binder → Type 0
  Binds o = (k j : ℕ) (s : Site) → slice_get (sites_in scope q) k ≡ Some s → s.path ≡ path → number ≡ min j (2 ^ 64 - 1) → IsBinderTold scope q s j o

  binds : (o : Option Binder) → Binds o → (k j : ℕ) (s : Site) → slice_get (sites q) k ≡ Some s → s.path ≡ path → number ≡ min j (2 ^ 64 - 1) → IsBinderTold [] q s j o
  binds o h k j s there is at =
      subst (λ (v : List Var). IsBinderTold v q s j o) empty (h k j s (subst (λ (v : List Var). slice_get (sites_in v q) k ≡ Some s) (sym empty) there) is at)

  pub none_only : Binds None → IsOnly z ts p q path Rebound number None
  none_only h = λ i node s v k g t there is at other told. absurd (binds None h i node s there is at (On other.binder) other.binds)

  pub outer_only : Binds (Some Outer) → IsOnly z ts p q path Rebound number None
  outer_only h = λ i node s v k g t there is at other told. absurd (nothing_outer q s node Outer refl (binds (Some Outer) h i node s there is at))

  pub on_only : (f : OtherNode) → Binds (Some (On f)) → (r : Result (Option Told) Mem) → IfOk r (λ o. IsNodeIn z ts p (take f.depth path) f.node o)
      → IfOk r (λ o. IsOnly z ts p q path Rebound number o)
  on_only f h (Ok o) told_in = λ i node s v k g t there is at other told.
      let same : f ≡ other.binder = same_on f other.binder (one [] q s node (On f) (On other.binder) (binds (Some (On f)) h i node s there is at) other.binds) in
      let way : v ≡ take f.depth path = other.path_is ∙ ap (λ (x : OtherNode). take x.depth s.path) (sym same) ∙ ap (λ (u : List ℕ). take f.depth u) is in
      let node_is : k ≡ f.node = other.node_is ∙ ap (λ (x : OtherNode). x.node) (sym same) in
      told_in.only g t
      (subst (λ (m : ℕ). IsNodeTold g z ts (located_definitions p.definitions p.behind) (main_in p) (take f.depth path) m t) node_is
      (subst (λ (u : List ℕ). IsNodeTold g z ts (located_definitions p.definitions p.behind) (main_in p) u k t) way told))
  on_only f h (Err m) told_in = tt

-- the same of a variable with another sign
pub signed_only : (z : List ℕ) (ts : List Token) (p : FileProcesses) (q : Proc) (path : List ℕ) (number : ℕ) (r : Result (Option Told) Mem)
    → IfOk r (λ o. IsOnly z ts p q path Rebound number o) → IfOk r (λ o. IsOnly z ts p q path SortClash number o)
signed_only z ts p q path number r h = h

-- of a fact: the number that is told is the node's own, where it isn't the greatest
module _ (z : List ℕ) (ts : List Token) (p : FileProcesses) (q : Proc) (path : List ℕ) (number : ℕ) (small : number ≡ 2 ^ 64 - 1 → ⊥) where
  own_number : (node : ℕ) → number ≡ min node (2 ^ 64 - 1) → node ≡ number
  own_number node e = omega (arith, small, e)

  its_fact : (s : Site) (node : ℕ) (v : List ℕ) (k : ℕ) → s.path ≡ path → number ≡ min node (2 ^ 64 - 1) → IsOtherFact q s.path node v k → IsOtherFact q path number v k
  its_fact s node v k is at h = subst (λ (n : ℕ). IsOtherFact q path n v k) (own_number node at) (subst (λ (u : List ℕ). IsOtherFact q u node v k) is h)

  pub no_fact_only : ((v : List ℕ) (m : ℕ) → IsOtherFact q path number v m → ⊥) → IsOnly z ts p q path FactClash number None
  no_fact_only none = λ i node s v k g t there is at other told. absurd (none v k (its_fact s node v k is at other))

  pub fact_only : OneFact → (u : List ℕ) (m : ℕ) → IsOtherFact q path number u m → (r : Result (Option Told) Mem) → IfOk r (λ o. IsNodeIn z ts p u m o)
      → IfOk r (λ o. IsOnly z ts p q path FactClash number o)
  fact_only one u m is_fact (Ok o) told_in = λ i node s v k g t there is at other told.
      let same = one q path number v u k m (its_fact s node v k is at other) is_fact in
      told_in.only g t
      (subst (λ (n : ℕ). IsNodeTold g z ts (located_definitions p.definitions p.behind) (main_in p) u n t) same.1
      (subst (λ (x : List ℕ). IsNodeTold g z ts (located_definitions p.definitions p.behind) (main_in p) x k t) same.0 told))
  fact_only one u m is_fact (Err e) told_in = tt

-- of other flaws nothing
pub no_other_node : (w : Flaw) → (w ≡ Rebound → ⊥) → (w ≡ SortClash → ⊥) → (w ≡ FactClash → ⊥) → (p : Proc) (s : Site) (n : ℕ) (v : List ℕ) (k : ℕ) → IsOtherNode w p s n v k → ⊥
no_other_node Rebound a b d p s n v k h = a refl
no_other_node SortClash a b d p s n v k h = b refl
no_other_node FactClash a b d p s n v k h = d refl
no_other_node _ a b d p s n v k h = h

pub unspoken : (z : List ℕ) (ts : List Token) (p : FileProcesses) (q : Proc) (path : List ℕ) (w : Flaw) (f : Spoken) → f.node ≡ None → IsOtherSpoken z ts p q path w f None
unspoken z ts p q path w f e = λ number is. cc (e, is)

pub other_flaws : (z : List ℕ) (ts : List Token) (p : FileProcesses) (q : Proc) (path : List ℕ) (w : Flaw) (f : Spoken) → (w ≡ Rebound → ⊥) → (w ≡ SortClash → ⊥)
    → (w ≡ FactClash → ⊥) → IsOtherSpoken z ts p q path w f None
other_flaws z ts p q path w f a b d = λ number is i node s v k g t there on at other told. absurd (no_other_node w a b d q s node v k other)

pub this_node : (z : List ℕ) (ts : List Token) (p : FileProcesses) (q : Proc) (path : List ℕ) (w u : Flaw) (f : Spoken) (number : ℕ) → f.node ≡ Some number → w ≡ u
    → (r : Result (Option Told) Mem) → IfOk r (λ o. IsOnly z ts p q path u number o) → IfOk r (λ o. IsOtherSpoken z ts p q path w f o)
this_node z ts p q path w u f number e same (Ok o) h = λ other is.
    subst (λ (v : Flaw). IsOnly z ts p q path v other o) (sym same) (subst (λ (m : ℕ). IsOnly z ts p q path u m o) (some_same (sym e ∙ is)) h)
this_node z ts p q path w u f number e same (Err m) h = tt

pub of_kind : (w u : Flaw) → w ≡ u → HasOtherNode u → (r : Result (Option Told) Mem) → IfOk r (λ o. IfSome o (λ t. HasOtherNode w))
of_kind w u same h (Ok None) = tt
of_kind w u same h (Ok (Some t)) = subst HasOtherNode (sym same) h
of_kind w u same h (Err m) = tt

pub spoken_answers : (z : List ℕ) (ts : List Token) (w : WrittenFile) (which : Flaw) (path : List ℕ) (f : Spoken) (q : Proc) → q ≡ expansion_in w
    → SpeaksOf w.declared.signature (expansion_in w) which path f → (r : Result (Option Told) Mem) → IfOk r (λ o. IsOtherSpoken z ts w.processes q path which f o)
    → IfOk r (λ o. IsOtherAnswer z ts w which path o)
spoken_answers z ts w which path f q is speaks (Ok o) h =
    some_flaw {f = f} speaks (subst (λ (x : Proc). IsOtherSpoken z ts w.processes x path which f o) is h)
spoken_answers z ts w which path f q is speaks (Err m) h = tt

pub unspoken_answer : (z : List ℕ) (ts : List Token) (w : WrittenFile) (which : Flaw) (path : List ℕ) → Speaks w.declared.signature (expansion_in w) which path None
    → IsOtherAnswer z ts w which path None
unspoken_answer z ts w which path none = no_flaw (λ free f s. none f s)
