-- Numbers keep their meaning, one call after another.
use Rattle.std.proofs.Common.{◌≡◌, ◌<◌, ◌+◌, ℕ, zero, suc, List, [], ◌∷◌, ◌++◌, length, take, Some, Result, Ok, Err, IfOk, OnErr, refl, sym, ap, subst, ◌∙◌, arith, append_assoc, length-append}
use Rattle.std.specs.Prelude.{slice_get}
use Rattle.std.proofs.lemmas.List.{append-nil}
use Rattle.sap_terms.proofs.PlainLaws.Lists.{take_got}
use Rattle.std.proofs.lemmas.List.Elements.{All-push}
use Rattle.sap_terms.specs.Tree.{Tree, apply, trees_of, list_of-trees_of}
use Rattle.sap_terms.specs.Ground.{IsGround, AreGround}
use Rattle.sap_terms.specs.Message.{IsOver, AreOver}
use Rattle.sap_terms.specs.Signature.{Sig, arity_of}
use Rattle.sap_share.specs.Shared.{Shared, tree_at, trees_at, AreBelow, Keeps, Gives}
use Rattle.sap_share.proofs.Shapes.{as_many}
use Rattle.sap_share.proofs.Grown.{tree_at-front, trees_at-front, AreBelow-up, trees_at-push}

pub keeps-self : (s : Shared) → Keeps s s
keeps-self s = record { sig = refl; added = []; trees = sym (append-nil s.trees) }

pub keeps-both : (s t u : Shared) → Keeps s t → Keeps t u → Keeps s u
keeps-both s t u h i = record {
  sig = i.sig ∙ h.sig;
  added = h.added ++ i.added;
  trees = i.trees ∙ ap (λ ts. ts ++ i.added) h.trees ∙ append_assoc s.trees h.added i.added;
}

-- what was below the count stays below it
pub keeps-below : (s t : Shared) (ks : List ℕ) → Keeps s t → AreBelow (length s.trees) ks → AreBelow (length t.trees) ks
keeps-below s t ks h b =
    let l : length t.trees ≡ length s.trees + length h.added = ap length h.trees ∙ length-append s.trees h.added in
    AreBelow-up (length s.trees) (length t.trees) ks (omega (arith, l)) b

-- and has the trees that it had
pub keeps-trees : (s t : Shared) (ks : List ℕ) → Keeps s t → AreBelow (length s.trees) ks → trees_at t.trees ks ≡ trees_at s.trees ks
keeps-trees s t ks h b = ap (λ us. trees_at us ks) h.trees ∙ trees_at-front s.trees h.added ks b

-- numbers of the first trees of a list, and one more
pub put_more : (s t : Shared) (ts : List Tree) (i : ℕ) (u : Tree) (ks more : List ℕ) (k : ℕ) → trees_at s.trees ks ≡ take i ts → AreBelow (length s.trees) ks → Gives s t k u → slice_get ts i ≡ Some u → more ≡ ks ++ k ∷ []
    → (trees_at t.trees more ≡ take (i + 1) ts) × AreBelow (length t.trees) more
put_more s t ts i u ks more k trees below gives at is =
    let P : ℕ → Type 0 = λ j. j < length t.trees in
    rw is (
      trees_at-push t.trees ks k ∙ ap (λ us. us ++ tree_at t.trees k ∷ []) (keeps-trees s t ks gives.keeps below ∙ trees) ∙ ap (λ v. take i ts ++ v ∷ []) gives.tree ∙ sym (take_got ts i u at),
      All-push P ks k (keeps-below s t ks gives.keeps below) gives.below,
    )

-- each of ground trees is ground
pub ground_at : (ts : List Tree) (i : ℕ) (t : Tree) → AreGround (trees_of ts) → slice_get ts i ≡ Some t → IsGround t
ground_at [] i t h at = cc
ground_at (u ∷ us) zero t h at = let e : u ≡ t = cc in subst IsGround e h.0
ground_at (u ∷ us) (suc i) t h at = ground_at us i t h.1 at

-- each of trees over the signature is over it
pub over_at : (g : Sig) (ts : List Tree) (i : ℕ) (t : Tree) → AreOver g (trees_of ts) → slice_get ts i ≡ Some t → IsOver g t
over_at g [] i t h at = cc
over_at g (u ∷ us) zero t h at = let e : u ≡ t = cc in subst (IsOver g) e h.0
over_at g (u ∷ us) (suc i) t h at = over_at g us i t h.1 at

-- a symbol over the signature is held on as many numbers
pub held_over : (s t : Shared) (f name : List ℕ) (ts : List Tree) (ks : List ℕ) → IsOver s.sig (apply f (trees_of ts)) → Keeps s t → name ≡ f → trees_at t.trees ks ≡ ts → arity_of t.sig name ≡ Some (length ks)
held_over s t f name ts ks over keeps is trees =
    rw (keeps.sig, is, as_many t.trees ts ks trees) (over.0 ∙ ap (λ us. Some (length us)) (list_of-trees_of ts))

-- a node that got a number, or was refused, leaves the others as they were
pub numbered_keeps : {E : Type 0} (s u : Shared) (x : Tree) (r : Result ℕ E) → IfOk r (λ k. Gives s u k x) → OnErr r (u ≡ s) → Keeps s u
numbered_keeps s u x (Ok k) gives same = gives.keeps
numbered_keeps s u x (Err e) gives same = subst (Keeps s) (sym same) (keeps-self s)

-- a symbol on the numbers of terms has the number of the symbol on the terms
pub applied_given : {E : Type 0} (s u w : Shared) (f name : List ℕ) (ts : List Tree) (ks : List ℕ) → Keeps s u → name ≡ f → trees_at u.trees ks ≡ ts → (r : Result ℕ E)
    → IfOk r (λ k. Gives u w k (apply name (trees_of (trees_at u.trees ks)))) → IfOk r (λ k. Gives s w k (apply f (trees_of ts)))
applied_given s u w f name ts ks keeps is trees (Ok k) gives =
    let same : apply name (trees_of (trees_at u.trees ks)) ≡ apply f (trees_of ts) = rw (is, trees) refl in
    record { keeps = keeps-both s u w keeps gives.keeps; below = gives.below; tree = gives.tree ∙ same }
applied_given s u w f name ts ks keeps is trees (Err e) gives = tt

pub ruleset put_laws = (keeps-self, keeps-both)

pub ruleset tree_laws = (trees_at-push)
