-- Names, pairs and first parts up to the theory, and the choice of a name for each variable.
use Rattle.std.proofs.Common.{◌≡◌, ◌<◌, ℕ, zero, suc, List, [], ◌∷◌, Bool, true, false, refl, arith}
use Rattle.std.specs.Prelude.{Contains, slice_index_or}
use Rattle.sap_terms.specs.Choice.{Choice}
use Rattle.sap_terms.specs.Equal.{same, next, forward}
use Rattle.sap_terms.specs.Equations.{Equations, IsInstance, first, second, symmetric, asymmetric, signing, revealing, revealed}
use Rattle.sap_terms.specs.Laws.{NamesAreMessages}
use Rattle.sap_terms.specs.Message.{IsMessage, IsMessageChoice}
use Rattle.sap_terms.specs.Normal.{IsNoLeftSide, IsNormal, IsNormalForm}
use Rattle.sap_terms.specs.Signature.{Sig}
use Rattle.sap_terms.specs.Tree.{Tree, public, fresh, apply, more}
use Rattle.sap_terms.specs.declared.var.Sort.{Sort}
use Rattle.sap_terms.specs.declared.var.Sort.TheVariants.{Msg, Fresh, Pub}
use Rattle.sap_rule.specs.StepExamples.{a, pair, first_of}

-- the first argument at the root is a symbol on trees: so it is in each left side
abbrev pub leads : Tree → Bool
leads (apply f (more (apply h us) ts)) = true
leads t = false

pub left_leads : (e : Equations) (t r : Tree) → IsInstance e t r → leads t ≡ true
left_leads e t r first = refl
left_leads e t r second = refl
left_leads e t r (symmetric s) = refl
left_leads e t r (asymmetric s) = refl
left_leads e t r (signing s) = refl
left_leads e t r (revealing s) = refl
left_leads e t r (revealed s) = refl

pub no_left_side : (e : Equations) (t : Tree) → leads t ≡ false → IsNoLeftSide e t
no_left_side e t h r i = let s = left_leads e t r i in cc

pub public_normal : (e : Equations) (n : List ℕ) → IsNormal e (public n)
public_normal e n = no_left_side e (public n) refl

pub fresh_normal : (e : Equations) (k : ℕ) → IsNormal e (fresh k)
fresh_normal e k = no_left_side e (fresh k) refl

-- names and pairs of names are their own normal forms
pub own_form : (e : Equations) (n : List ℕ) → IsNormalForm e (public n) (public n)
own_form e n = record { equal = same; normal = public_normal e n }

pub fresh_form : (e : Equations) (k : ℕ) → IsNormalForm e (fresh k) (fresh k)
fresh_form e k = record { equal = same; normal = fresh_normal e k }

pub pair_form : (e : Equations) (n m : List ℕ) → IsNormalForm e (pair (public n) (public m)) (pair (public n) (public m))
pair_form e n m = record {
  equal = same;
  normal = (no_left_side e (pair (public n) (public m)) refl, (public_normal e n, (public_normal e m, tt)));
}

pub first_form : (e : Equations) (n : List ℕ) (t : Tree) → IsNormalForm e (first_of (pair (public n) t)) (public n)
first_form e n t = record { equal = next (forward first) same; normal = public_normal e n }

-- each variable stands for a name: `~x` for a fresh one
abbrev pub name_for : Sort → Tree
name_for Msg = a
name_for Fresh = fresh 0
name_for Pub = a

abbrev pub names : Choice
names v = name_for v.sort

name_message : NamesAreMessages → (g : Sig) (s : Sort) → IsMessage g s (name_for s)
name_message all g Msg = all.public_name g Msg _ refl
name_message all g Fresh = all.fresh_name g Fresh 0 refl
name_message all g Pub = all.public_name g Pub _ refl

pub names_messages : NamesAreMessages → (g : Sig) → IsMessageChoice g names
names_messages all g v = name_message all g v.sort

either : (t u : Tree) (k : ℕ) (d : Tree) → slice_index_or (t ∷ u ∷ []) k (slice_index_or (t ∷ u ∷ []) k d) ≡ slice_index_or (t ∷ u ∷ []) k d
either t u zero d = refl
either t u (suc zero) d = refl
either t u (suc (suc k)) d = refl

alone_at : (m n k : ℕ) → k < 1 → slice_index_or (m ∷ []) k n ≡ n → m ≡ n
alone_at m n zero h e = e
alone_at m n (suc k) h e = omega arith

-- a list of one name has no other name
pub no_other : (m n : ℕ) → ¬ (m ≡ n) → ¬ Contains (m ∷ []) n
no_other m n other h = other (alone_at m n h.0 h.1 h.2)
