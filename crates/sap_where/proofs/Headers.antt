-- Which word of a header is wrong.
use Rattle.std.proofs.Common.{◌≡◌, ℕ, true, false, List, [], ◌∷◌, drop, refl, sym, ap, subst, arith}
use Rattle.std.proofs.lemmas.Slice.Eq.{bytes_eq-Decides}
use Rattle.std.specs.Prelude.{codes, is_some}
use Rattle.std.proofs.lemmas.Bool.{both_ways}
use Rattle.sap_grammar.specs.Words.{Word, mark, name, number, quoted, is_mark, starts}
use Rattle.sap_grammar.specs.Reading.{as_name, name_at}
use Rattle.sap_where.specs.Where.{StartsFile}
use Rattle.sap_expect.specs.FirstWrong.{GoOn, IsFirstWrong}

mark_is : (m : List ℕ) (w : Word) → is_mark m w ≡ true → w ≡ mark m
mark_is m (mark s) e = ap mark ((bytes_eq-Decides s m).0 e)
mark_is m (name s) e = cc
mark_is m (number s) e = cc
mark_is m (quoted s) e = cc

name_is : (w : Word) → is_some (as_name w) ≡ true → (x : List ℕ) × (w ≡ name x)
name_is (mark s) e = absurd (cc)
name_is (name s) e = (s, refl)
name_is (number s) e = absurd (cc)
name_is (quoted s) e = absurd (cc)

-- the word that stands first, or another
abbrev head : Word → List Word → Word
head w [] = w
head w (v ∷ vs) = v

-- the words behind it
abbrev tail : List Word → List Word
tail [] = []
tail (v ∷ vs) = vs

same_head : (w v : Word) (ws vs : List Word) → w ∷ ws ≡ v ∷ vs → w ≡ v
same_head w v ws vs e = ap (λ (us : List Word). head w us) e

same_tail : (w v : Word) (ws vs : List Word) → w ∷ ws ≡ v ∷ vs → ws ≡ vs
same_tail w v ws vs e = ap tail e

is_theory : is_mark (codes "theory") (mark (codes "theory")) ≡ true
is_theory = refl

is_begin : is_mark (codes "begin") (mark (codes "begin")) ≡ true
is_begin = refl

-- what a header begins with goes on to one
begun : (w : Word) → w ≡ mark (codes "theory") → GoOn StartsFile (w ∷ [])
begun w e = (name [] ∷ mark (codes "begin") ∷ [], record { name_of = []; rest = []; spelled = ap (λ (v : Word). v ∷ name [] ∷ mark (codes "begin") ∷ []) e })

named : (w v : Word) (x : List ℕ) → w ≡ mark (codes "theory") → v ≡ name x → GoOn StartsFile (w ∷ v ∷ [])
named w v x e f = (mark (codes "begin") ∷ [], record { name_of = x; rest = []; spelled = λ i. e i ∷ f i ∷ mark (codes "begin") ∷ [] })

-- such words begin with no header
not_first : (ws : List Word) → starts (codes "theory") ws ≡ false → StartsFile ws → ⊥
not_first ws e h = both_ways _ e (subst (λ (vs : List Word). starts (codes "theory") vs ≡ true) (sym h.spelled) is_theory)

not_second : (ws : List Word) → is_some (name_at (drop 1 ws)) ≡ false → StartsFile ws → ⊥
not_second ws e h = both_ways _ e (subst (λ (vs : List Word). is_some (name_at (drop 1 vs)) ≡ true) (sym h.spelled) refl)

not_third : (ws : List Word) → starts (codes "begin") (drop 2 ws) ≡ false → StartsFile ws → ⊥
not_third ws e h = both_ways _ e (subst (λ (vs : List Word). starts (codes "begin") (drop 2 vs) ≡ true) (sym h.spelled) is_begin)

pub wrong_first : (ws : List Word) → starts (codes "theory") ws ≡ false → IsFirstWrong StartsFile ws 0
wrong_first [] e = record {
  isnt = not_first [] e;
  inside = omega arith;
  before = (mark (codes "theory") ∷ name [] ∷ mark (codes "begin") ∷ [], record { name_of = []; rest = []; spelled = refl });
  wrong = λ lt g. absurd (omega arith);
}
wrong_first (w ∷ ws) e = record {
  isnt = not_first (w ∷ ws) e;
  inside = omega arith;
  before = (mark (codes "theory") ∷ name [] ∷ mark (codes "begin") ∷ [], record { name_of = []; rest = []; spelled = refl });
  wrong = λ lt g.
      let is : w ≡ mark (codes "theory") = same_head _ _ _ _ g.1.spelled in
      both_ways _ e (subst (λ (v : Word). is_mark (codes "theory") v ≡ true) (sym is) is_theory);
}

pub wrong_second : (ws : List Word) → starts (codes "theory") ws ≡ true → is_some (name_at (drop 1 ws)) ≡ false → IsFirstWrong StartsFile ws 1
wrong_second [] e f = absurd (cc)
wrong_second (w ∷ []) e f = record {
  isnt = not_second (w ∷ []) f;
  inside = omega arith;
  before = begun w (mark_is (codes "theory") w e);
  wrong = λ lt g. absurd (omega arith);
}
wrong_second (w ∷ v ∷ ws) e f = record {
  isnt = not_second (w ∷ v ∷ ws) f;
  inside = omega arith;
  before = begun w (mark_is (codes "theory") w e);
  wrong = λ lt g.
      let is : v ≡ name g.1.name_of = same_head _ _ _ _ (same_tail _ _ _ _ g.1.spelled) in
      both_ways _ f (subst (λ (u : Word). is_some (as_name u) ≡ true) (sym is) refl);
}

pub wrong_third : (ws : List Word) → starts (codes "theory") ws ≡ true → is_some (name_at (drop 1 ws)) ≡ true → starts (codes "begin") (drop 2 ws) ≡ false → IsFirstWrong StartsFile ws 2
wrong_third [] e f h = absurd (cc)
wrong_third (w ∷ []) e f h = absurd (cc)
wrong_third (w ∷ v ∷ []) e f h =
    let n = name_is v f in
    record {
      isnt = not_third (w ∷ v ∷ []) h;
      inside = omega arith;
      before = named w v n.0 (mark_is (codes "theory") w e) n.1;
      wrong = λ lt g. absurd (omega arith);
    }
wrong_third (w ∷ v ∷ u ∷ ws) e f h =
    let n = name_is v f in
    record {
      isnt = not_third (w ∷ v ∷ u ∷ ws) h;
      inside = omega arith;
      before = named w v n.0 (mark_is (codes "theory") w e) n.1;
      wrong = λ lt g.
          let is : u ≡ mark (codes "begin") = same_head _ _ _ _ (same_tail _ _ _ _ (same_tail _ _ _ _ g.1.spelled)) in
          both_ways _ h (subst (λ (t : Word). is_mark (codes "begin") t ≡ true) (sym is) is_begin);
    }

pub none_wrong : (ws : List Word) → starts (codes "theory") ws ≡ true → is_some (name_at (drop 1 ws)) ≡ true → starts (codes "begin") (drop 2 ws) ≡ true → StartsFile ws
none_wrong [] e f h = absurd (cc)
none_wrong (w ∷ []) e f h = absurd (cc)
none_wrong (w ∷ v ∷ []) e f h = absurd (cc)
none_wrong (w ∷ v ∷ u ∷ ws) e f h =
    let first = mark_is (codes "theory") w e in
    let second = name_is v f in
    let third = mark_is (codes "begin") u h in
    record { name_of = second.0; rest = ws; spelled = λ i. first i ∷ second.1 i ∷ third i ∷ ws }
