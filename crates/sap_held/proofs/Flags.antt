-- Lists of locks with flags: which is the last open one of a term, and what is open without it.
use Rattle.std.proofs.Common.{◌≡◌, ℕ, zero, suc, ◌+◌, ◌<◌, add-one, List, [], ◌∷◌, ◌++◌, take, length, Option, Some, None, Bool, true, false, ◌&&◌, cond, arith, slice_index_or, slice_set, refl, sym, ap, ◌∙◌}
use Rattle.sap_terms.specs.Same.{same_tree}
use Rattle.sap_terms.specs.Tree.{Tree}
use Rattle.sap_terms.specs.View.{tree}
use Rattle.sap_held.specs.Held.{Open, found, dropped, with_open, label_at, opens_on, opens, IsLastOpen}
use Rattle.sap_held.specs.code.Last.{is_open_of, later_or, last_open}
use Rattle.sap_held.specs.declared.held.Held.{Held}

pub set_is : (hs : List Held) (k : ℕ) (b : Bool) (d : Held) → k < length hs → slice_set hs k (record (slice_index_or hs k d) { is_open = b }) ≡ with_open hs k b
set_is [] k b d h = absurd (omega (arith, h))
set_is (x ∷ hs) zero b d h = refl
set_is (x ∷ hs) (suc k) b d h = ap (λ zs. x ∷ zs) (set_is hs k b d (let less : suc k < suc (length hs) = h in omega (arith, less)))

pub label_is : (hs : List Held) (k : ℕ) (d : Held) → k < length hs → (slice_index_or hs k d).label ≡ label_at hs k
label_is [] k d h = absurd (omega (arith, h))
label_is (x ∷ hs) zero d h = refl
label_is (x ∷ hs) (suc k) d h = label_is hs k d (let less : suc k < suc (length hs) = h in omega (arith, less))

-- one more item
pub last_step : (t : Tree) (hs : List Held) (k : ℕ) (d : Held) → k < length hs → last_open t (take (k + 1) hs) ≡ cond (is_open_of t (slice_index_or hs k d)) (Some k) (last_open t (take k hs))
last_step t hs k d h = rw add-one (at hs k h)
  where
    one : (b : Bool) → later_or None b ≡ cond b (Some 0) None
    one true = refl
    one false = refl

    more : (c : Bool) (k : ℕ) (o : Option ℕ) (b : Bool) → later_or (cond c (Some k) o) b ≡ cond c (Some (suc k)) (later_or o b)
    more true k o b = refl
    more false k o b = refl

    at : (hs : List Held) (k : ℕ) → k < length hs → last_open t (take (suc k) hs) ≡ cond (is_open_of t (slice_index_or hs k d)) (Some k) (last_open t (take k hs))
    at [] k h = absurd (omega (arith, h))
    at (x ∷ hs) zero h = one (is_open_of t x)
    at (x ∷ hs) (suc k) h =
        ap (λ o. later_or o (is_open_of t x)) (at hs k (let less : suc k < suc (length hs) = h in omega (arith, less)))
        ∙ more (is_open_of t (slice_index_or hs k d)) k (last_open t (take k hs)) (is_open_of t x)

-- none has the term
pub found_none : (t : Tree) (hs : List Held) (o : Open) → last_open t hs ≡ None → found t (opens_on hs o) ≡ found t o
found_none t [] o e = refl
found_none t (h ∷ hs) o e = go (found_none t hs) (last_open t hs) refl h.is_open (same_tree (tree h.term) t) refl e
  where
    go : ((o : Open) → last_open t hs ≡ None → found t (opens_on hs o) ≡ found t o) → (p : Option ℕ) → last_open t hs ≡ p → (a b : Bool) → same_tree (tree h.term) t ≡ b → later_or p (a && b) ≡ None → found t (opens_on hs (cond a ((h.label, tree h.term) ∷ o) o)) ≡ found t o
    go rec (Some k) f a b s e = cc
    go rec None f true true s e = cc
    go rec None f true false s e = rec ((h.label, tree h.term) ∷ o) f ∙ rw s refl
    go rec None f false b s e = rec o f

pub dropped_none : (t : Tree) (hs : List Held) (o : Open) → last_open t hs ≡ None → dropped t (opens_on hs o) ≡ opens_on hs (dropped t o)
dropped_none t [] o e = refl
dropped_none t (h ∷ hs) o e = go (dropped_none t hs) (last_open t hs) refl h.is_open (same_tree (tree h.term) t) refl e
  where
    go : ((o : Open) → last_open t hs ≡ None → dropped t (opens_on hs o) ≡ opens_on hs (dropped t o)) → (p : Option ℕ) → last_open t hs ≡ p → (a b : Bool) → same_tree (tree h.term) t ≡ b → later_or p (a && b) ≡ None → dropped t (opens_on hs (cond a ((h.label, tree h.term) ∷ o) o)) ≡ opens_on hs (cond a ((h.label, tree h.term) ∷ dropped t o) (dropped t o))
    go rec (Some k) f a b s e = cc
    go rec None f true true s e = cc
    go rec None f true false s e = rec ((h.label, tree h.term) ∷ o) f ∙ ap (opens_on hs) (ap (λ c. cond c o ((h.label, tree h.term) ∷ dropped t o)) s)
    go rec None f false b s e = rec o f

-- the last one that is open and has the term is the first of the open ones, and without it stands what is open where it isn't
pub found_last : (t : Tree) (hs : List Held) (o : Open) (k : ℕ) → last_open t hs ≡ Some k → found t (opens_on hs o) ≡ Some (label_at hs k)
found_last t [] o k e = cc
found_last t (h ∷ hs) o k e = go (found_last t hs) (last_open t hs) refl h.is_open (same_tree (tree h.term) t) refl k e
  where
    go : ((o : Open) (k : ℕ) → last_open t hs ≡ Some k → found t (opens_on hs o) ≡ Some (label_at hs k)) → (p : Option ℕ) → last_open t hs ≡ p → (a b : Bool) → same_tree (tree h.term) t ≡ b → (k : ℕ) → later_or p (a && b) ≡ Some k → found t (opens_on hs (cond a ((h.label, tree h.term) ∷ o) o)) ≡ Some (label_at (h ∷ hs) k)
    go rec (Some j) f a b s zero e = cc
    go rec (Some j) f a b s (suc k) e = let same : j ≡ k = cc in rec (cond a ((h.label, tree h.term) ∷ o) o) k (f ∙ ap Some same)
    go rec None f true true s zero e = found_none t hs ((h.label, tree h.term) ∷ o) f ∙ rw s refl
    go rec None f true true s (suc k) e = cc
    go rec None f true false s k e = cc
    go rec None f false b s k e = cc

pub dropped_last : (t : Tree) (hs : List Held) (o : Open) (k : ℕ) → last_open t hs ≡ Some k → dropped t (opens_on hs o) ≡ opens_on (with_open hs k false) o
dropped_last t [] o k e = cc
dropped_last t (h ∷ hs) o k e = go (dropped_last t hs) (last_open t hs) refl h.is_open refl (same_tree (tree h.term) t) refl k e
  where
    go : ((o : Open) (k : ℕ) → last_open t hs ≡ Some k → dropped t (opens_on hs o) ≡ opens_on (with_open hs k false) o) → (p : Option ℕ) → last_open t hs ≡ p → (a : Bool) → h.is_open ≡ a → (b : Bool) → same_tree (tree h.term) t ≡ b → (k : ℕ) → later_or p (a && b) ≡ Some k → dropped t (opens_on hs (cond a ((h.label, tree h.term) ∷ o) o)) ≡ opens_on (with_open (h ∷ hs) k false) o
    go rec (Some j) f a g b s zero e = cc
    go rec (Some j) f a g b s (suc k) e = let same : j ≡ k = cc in rec (cond a ((h.label, tree h.term) ∷ o) o) k (f ∙ ap Some same) ∙ ap (λ c. opens_on (with_open hs k false) (cond c ((h.label, tree h.term) ∷ o) o)) (sym g)
    go rec None f true g true s zero e = dropped_none t hs ((h.label, tree h.term) ∷ o) f ∙ ap (opens_on hs) (ap (λ c. cond c o ((h.label, tree h.term) ∷ dropped t o)) s)
    go rec None f true g true s (suc k) e = cc
    go rec None f true g false s k e = cc
    go rec None f false g b s k e = cc

pub open_again : (t : Tree) (hs : List Held) (k : ℕ) → last_open t hs ≡ Some k → with_open (with_open hs k false) k true ≡ hs
open_again t [] k e = cc
open_again t (h ∷ hs) k e = go (open_again t hs) (last_open t hs) refl h.is_open refl (same_tree (tree h.term) t) k e
  where
    go : ((k : ℕ) → last_open t hs ≡ Some k → with_open (with_open hs k false) k true ≡ hs) → (p : Option ℕ) → last_open t hs ≡ p → (a : Bool) → h.is_open ≡ a → (b : Bool) → (k : ℕ) → later_or p (a && b) ≡ Some k → with_open (with_open (h ∷ hs) k false) k true ≡ h ∷ hs
    go rec (Some j) f a g b zero e = cc
    go rec (Some j) f a g b (suc k) e = let same : j ≡ k = cc in ap (λ zs. h ∷ zs) (rec k (f ∙ ap Some same))
    go rec None f true g true zero e = ap (λ (c : Bool). record h { is_open = c } ∷ hs) (sym g)
    go rec None f true g true (suc k) e = cc
    go rec None f true g false k e = cc
    go rec None f false g b k e = cc

pub last_below : (t : Tree) (hs : List Held) (k : ℕ) → last_open t hs ≡ Some k → k < length hs
last_below t [] k e = cc
last_below t (h ∷ hs) k e = go (last_below t hs) (last_open t hs) refl (is_open_of t h) k e
  where
    go : ((k : ℕ) → last_open t hs ≡ Some k → k < length hs) → (p : Option ℕ) → last_open t hs ≡ p → (b : Bool) → (k : ℕ) → later_or p b ≡ Some k → k < suc (length hs)
    go rec (Some j) f b zero e = omega arith
    go rec (Some j) f b (suc k) e = let same : j ≡ k = cc in let less : k < length hs = rec k (f ∙ ap Some same) in omega (arith, less)
    go rec None f true zero e = omega arith
    go rec None f true (suc k) e = cc
    go rec None f false k e = cc

pub with_length : (hs : List Held) (k : ℕ) (b : Bool) → length (with_open hs k b) ≡ length hs
with_length [] k b = refl
with_length (h ∷ hs) zero b = refl
with_length (h ∷ hs) (suc k) b = ap suc (with_length hs k b)

-- what the last one says of the open ones
pub says_last : (t : Tree) (hs : List Held) (o : Option ℕ) → o ≡ last_open t hs → IsLastOpen t hs o
says_last t hs None e = (found_none t hs [] (sym e), dropped_none t hs [] (sym e))
says_last t hs (Some k) e = (last_below t hs k (sym e), found_last t hs [] k (sym e), dropped_last t hs [] k (sym e), open_again t hs k (sym e))
