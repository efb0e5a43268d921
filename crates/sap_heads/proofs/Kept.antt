-- What stays as it is at a table with more numbers.
use Rattle.std.proofs.Common.{◌≡◌, ◌<◌, ℕ, zero, suc, List, [], ◌∷◌, ◌++◌, length, refl, ap, ◌∙◌, arith, if◌then◌else◌}
use Rattle.std.specs.Str.{bytes_eq}
use Rattle.std.proofs.lemmas.List.Elements.{All-head, All-tail}
use Rattle.sap_terms.specs.Equations.{equations}
use Rattle.sap_terms.specs.Tree.{Tree}
use Rattle.sap_terms.specs.declared.limits.TheConstants.{MOST_TERM_NODES}
use Rattle.sap_terms.specs.declared.var.Var.{Var}
use Rattle.sap_share.specs.Env.{given, AreSmallForms, IsSmallForm}
use Rattle.sap_share.specs.Shared.{Shared, tree_at, Keeps}
use Rattle.sap_share.specs.declared.env.Bound.{Bound}
use Rattle.sap_heads.specs.Values.{IsSmallNumber}

tree_front : (ts us : List Tree) (k : ℕ) → k < length ts → tree_at (ts ++ us) k ≡ tree_at ts k
tree_front [] us k lt = absurd (omega arith)
tree_front (t ∷ ts) us zero lt = refl
tree_front (t ∷ ts) us (suc k) lt = let less : k < length ts = omega arith in tree_front ts us k less

-- more numbers change nothing
module _ (s u : Shared) (h : Keeps s u) where
  pub tree_stays : (k : ℕ) → k < length s.trees → tree_at u.trees k ≡ tree_at s.trees k
  tree_stays k lt = ap (λ ts. tree_at ts k) h.trees ∙ tree_front s.trees h.added k lt

  longer : (k : ℕ) → k < length s.trees → k < length u.trees
  longer k lt = rw h.trees (more s.trees h.added k lt) where
    more : (xs ys : List Tree) (k : ℕ) → k < length xs → k < length (xs ++ ys)
    more [] ys k lt = absurd (omega arith)
    more (x ∷ xs) ys zero lt = omega arith
    more (x ∷ xs) ys (suc k) lt = let less : k < length xs = omega arith in let i = more xs ys k less in omega arith

  pub small_stays : (k : ℕ) → IsSmallNumber s k → IsSmallNumber u k
  small_stays k i =
      let same = tree_stays k i.below in
      record { below = longer k i.below; normal = rw (h.sig, same) i.normal; within = rw same i.within }

  given_at : (env : List Bound) → AreSmallForms (equations s.sig) MOST_TERM_NODES s.trees env → (v : Var) → given u.trees env v ≡ given s.trees env v
  given_at [] small v = refl
  given_at (e ∷ es) small v =
      let P : Bound → Type 0 = λ b. IsSmallForm (equations s.sig) MOST_TERM_NODES s.trees b.id in
      let here = tree_stays e.id (All-head P e es small).below in
      let there = given_at es (All-tail P e es small) v in
      λ i. if bytes_eq e.var.name v.name then here i else there i

  pub given_stays : (env : List Bound) → AreSmallForms (equations s.sig) MOST_TERM_NODES s.trees env → given u.trees env ≡ given s.trees env
  given_stays env small = λ i v. given_at env small v i

  pub env_stays : (env : List Bound) → AreSmallForms (equations s.sig) MOST_TERM_NODES s.trees env → AreSmallForms (equations u.sig) MOST_TERM_NODES u.trees env
  env_stays env small = λ k d lt. small_stays _ (small k d lt)
