-- Facts and bindings with numbers, while the table grows.
use Rattle.std.proofs.Common.{◌≡◌, ◌<◌, ◌≤◌, ◌+◌, ℕ, List, [], ◌∷◌, ◌++◌, length, map, take, refl, sym, ap, ◌∙◌, arith, append_assoc, length-append}
use Rattle.std.specs.Prelude.{slice_get, Some, All}
use Rattle.std.proofs.lemmas.List.{append-nil, get_or_append_left, map_push}
use Rattle.std.proofs.lemmas.List.Elements.{All-head, All-tail, All-nil, All-cons, All-push, All-weaker}
use Rattle.sap_terms.proofs.PlainLaws.Lists.{take_got}
use Rattle.sap_terms.specs.Ground.{AreGround}
use Rattle.sap_terms.specs.Message.{AreOver}
use Rattle.sap_terms.specs.Signature.{Sig}
use Rattle.sap_terms.specs.Tree.{Tree, fresh, trees_of}
use Rattle.sap_terms.specs.View.{tree, term, term-tree}
use Rattle.sap_terms.specs.declared.binding.Binding.{Binding}
use Rattle.sap_terms.specs.declared.fact.Fact.{Fact}
use Rattle.sap_share.specs.Env.{AreBound, bindings_of}
use Rattle.sap_share.specs.Shared.{Shared, tree_at, trees_at, AreBelow, Keeps, Gives}
use Rattle.sap_share.specs.declared.env.Bound.{Bound}
use Rattle.sap_sides.specs.Laws.{SharedFactsStay}
use Rattle.sap_sides.specs.Messages.{IsSmallMessage}
use Rattle.sap_sides.specs.SharedFacts.{fact_seen, IsShared, AreShared}
use Rattle.sap_sides.specs.declared.shared_fact.SharedFact.{SharedFact}

pub keeps-self : (s : Shared) → Keeps s s
keeps-self s = record { sig = refl; added = []; trees = sym (append-nil s.trees) }

pub keeps-both : (s t u : Shared) → Keeps s t → Keeps t u → Keeps s u
keeps-both s t u h i = record {
  sig = i.sig ∙ h.sig;
  added = h.added ++ i.added;
  trees = i.trees ∙ ap (λ ts. ts ++ i.added) h.trees ∙ append_assoc s.trees h.added i.added;
}

trees_at-front : (ts us : List Tree) (ks : List ℕ) → AreBelow (length ts) ks → trees_at (ts ++ us) ks ≡ trees_at ts ks
trees_at-front ts us [] h = refl
trees_at-front ts us (k ∷ ks) h =
    let P : ℕ → Type 0 = λ j. j < length ts in
    λ i. get_or_append_left ts us (fresh 0) k (All-head P k ks h) i ∷ trees_at-front ts us ks (All-tail P k ks h) i

below-up : (m n : ℕ) (ks : List ℕ) → m ≤ n → AreBelow m ks → AreBelow n ks
below-up m n ks h b = All-weaker (λ (k : ℕ). k < m) (λ (k : ℕ). k < n) (λ k l. omega (arith, h, l)) ks b

pub keeps-more : (s t : Shared) → Keeps s t → length s.trees ≤ length t.trees
keeps-more s t h =
    let l : length t.trees ≡ length s.trees + length h.added = ap length h.trees ∙ length-append s.trees h.added in
    omega (arith, l)

pub keeps-below : (s t : Shared) (ks : List ℕ) → Keeps s t → AreBelow (length s.trees) ks → AreBelow (length t.trees) ks
keeps-below s t ks h b = below-up (length s.trees) (length t.trees) ks (keeps-more s t h) b

pub keeps-trees : (s t : Shared) (ks : List ℕ) → Keeps s t → AreBelow (length s.trees) ks → trees_at t.trees ks ≡ trees_at s.trees ks
keeps-trees s t ks h b = ap (λ us. trees_at us ks) h.trees ∙ trees_at-front s.trees h.added ks b

-- small messages are ground, and over the signature
pub messages_ground : (g : Sig) (ts : List Tree) → All (IsSmallMessage g) ts → AreGround (trees_of ts)
messages_ground g [] h = tt
messages_ground g (t ∷ ts) h = ((All-head (IsSmallMessage g) t ts h).message.ground, messages_ground g ts (All-tail (IsSmallMessage g) t ts h))

pub messages_over : (g : Sig) (ts : List Tree) → All (IsSmallMessage g) ts → AreOver g (trees_of ts)
messages_over g [] h = tt
messages_over g (t ∷ ts) h = ((All-head (IsSmallMessage g) t ts h).message.over, messages_over g ts (All-tail (IsSmallMessage g) t ts h))

-- a fact stays what it is while the table grows
pub keeps-fact : (s t : Shared) (f : SharedFact) → Keeps s t → AreBelow (length s.trees) f.args → fact_seen t.trees f ≡ fact_seen s.trees f
keeps-fact s t f h b = λ i. record { name = f.name; persistent = f.persistent; args = keeps-trees s t f.args h b i }

-- facts with numbers stay what they are
pub shared_kept : (s t : Shared) (ss : List SharedFact) → Keeps s t → All (λ (f : SharedFact). AreBelow (length s.trees) f.args) ss → (map (fact_seen t.trees) ss ≡ map (fact_seen s.trees) ss) × All (λ (f : SharedFact). AreBelow (length t.trees) f.args) ss
shared_kept s t [] h b = (refl, All-nil (λ (f : SharedFact). AreBelow (length t.trees) f.args))
shared_kept s t (f ∷ fs) h b =
    let first = All-head (λ (f : SharedFact). AreBelow (length s.trees) f.args) f fs b in
    let q = shared_kept s t fs h (All-tail (λ (f : SharedFact). AreBelow (length s.trees) f.args) f fs b) in
    let is = keeps-fact s t f h first in
    let same = q.0 in
    (λ i. is i ∷ same i, All-cons (λ (f : SharedFact). AreBelow (length t.trees) f.args) f fs (keeps-below s t f.args h first) q.1)

-- numbers for the first facts of a list, and for one more
pub share_more : (s t : Shared) (fs : List Fact) (i : ℕ) (f : Fact) (ss more : List SharedFact) (x : SharedFact) → AreShared s.trees (take i fs) ss → Keeps s t → IsShared t.trees f x → slice_get fs i ≡ Some f → more ≡ ss ++ x ∷ [] → AreShared t.trees (take (i + 1) fs) more
share_more s t fs i f ss more x before keeps one at is =
    let k = shared_kept s t ss keeps before.below in
    rw is (record {
      below = All-push (λ (f : SharedFact). AreBelow (length t.trees) f.args) ss x k.1 one.below;
      are = map_push (fact_seen t.trees) ss x ∙ (λ j. (k.0 ∙ before.are) j ++ one.is j ∷ []) ∙ sym (take_got fs i f at);
    })

pub shared_none : (ts : List Tree) → AreShared ts [] []
shared_none ts = record { below = All-nil (λ (f : SharedFact). AreBelow (length ts) f.args); are = refl }

bindings-kept : (s t : Shared) (env : List Bound) → Keeps s t → AreBound (length s.trees) env → (bindings_of t.trees env ≡ bindings_of s.trees env) × AreBound (length t.trees) env
bindings-kept s t [] h b = (refl, All-nil (λ (e : Bound). e.id < length t.trees))
bindings-kept s t (e ∷ es) h b =
    let here : e.id < length s.trees = All-head (λ (x : Bound). x.id < length s.trees) e es b in
    let q = bindings-kept s t es h (All-tail (λ (x : Bound). x.id < length s.trees) e es b) in
    let is : tree_at t.trees e.id ≡ tree_at s.trees e.id = ap (λ us. tree_at us e.id) h.trees ∙ get_or_append_left s.trees h.added (fresh 0) e.id here in
    let more = keeps-more s t h in
    let same = q.0 in
    (λ i. record { var = e.var; term = term (is i) } ∷ same i, All-cons (λ (x : Bound). x.id < length t.trees) e es (omega (arith, here, more)) q.1)

-- the first bindings with numbers for their terms, and one more
pub bind_more : (s t : Shared) (b : List Binding) (i : ℕ) (e : Binding) (env more : List Bound) (x : Bound) → bindings_of s.trees env ≡ take i b → AreBound (length s.trees) env → Gives s t x.id (tree e.term) → x.var ≡ e.var → slice_get b i ≡ Some e → more ≡ env ++ x ∷ []
    → (bindings_of t.trees more ≡ take (i + 1) b) × AreBound (length t.trees) more
bind_more s t b i e env more x are bound gives var at is =
    let k = bindings-kept s t env gives.keeps bound in
    let term_is : term (tree_at t.trees x.id) ≡ e.term = ap term gives.tree ∙ term-tree e.term in
    let front = k.0 ∙ are in
    rw is (
      map_push (λ (y : Bound). record { var = y.var; term = term (tree_at t.trees y.id) }) env x ∙ (λ j. front j ++ record { var = var j; term = term_is j } ∷ []) ∙ sym (take_got b i e at),
      All-push (λ (y : Bound). y.id < length t.trees) env x k.1 gives.below,
    )

pub stays : SharedFactsStay
stays s t f h b = (keeps-fact s t f h b, keeps-below s t f.args h b)

pub ruleset kept_laws = (keeps-self, keeps-both, shared_none)
