-- A walk past words one by one, up to the first wrong one.
use Rattle.std.proofs.Common.{◌≡◌, ◌≤◌, ◌<◌, ◌+◌, ℕ, zero, suc, List, [], ◌∷◌, ◌++◌, ◌∙◌, refl, sym, ap, subst, arith, length, get_or, take, drop, true, false}
use Rattle.sap_text.specs.declared.token.Token.{Token}
use Rattle.sap_grammar.specs.Words.{Word, word_of, words_of}
use Rattle.sap_grammar.proofs.ReadingLaws.Tokens.{length-words}
use Rattle.sap_expect.specs.FileTable.{Open, Takes, file}
use Rattle.sap_expect.specs.FileWords.{IsFileWords}
use Rattle.sap_expect.specs.Letters.{AreLettered}
use Rattle.sap_expect.specs.OpenMarks.{OpenMark, behind_word, open_behind}
use Rattle.sap_expect.specs.code.Going.{StandsBehind}
use Rattle.sap_expect.specs.code.Stops.{IsStop}
use Rattle.sap_expect.specs.code.WantedView.{stacked}
use Rattle.sap_expect.specs.code.Ways.{Passed}
use Rattle.sap_expect.specs.declared.walk.Walk.{Walk}
use Rattle.sap_expect.specs.declared.way.Way.{Way}
use Rattle.sap_expect.proofs.FirstWrong.{ends_early, follows_all, one_longer, token_at, wrong_token}
use Rattle.sap_expect.proofs.KindReached.{Walked, first_behind, next_behind, stands_behind}

-- behind these words
pub record Gone (ws : List Word) (v : Way) : Type 0 where
  pub walked : Walked ws v.walk.levels (stacked v.walk.stack.items)
  pub marks : v.marks.items ≡ open_behind 0 [] ws

pub gone_nowhere : (v : Way) → v.walk.levels ≡ 0 → stacked v.walk.stack.items ≡ file → v.marks.items ≡ [] → Gone [] v
gone_nowhere v e f g = record {
  walked = subst (λ (n : ℕ). Walked [] n (stacked v.walk.stack.items)) (sym e) (subst (λ (us : List Open). Walked [] 0 us) (sym f) first_behind);
  marks = g;
}

-- the brackets behind one word more
one_more : (k : ℕ) (os : List OpenMark) (ws : List Word) (w : Word) → open_behind k os (ws ++ w ∷ []) ≡ behind_word (k + length ws) w (open_behind k os ws)
one_more k os [] w = ap (λ (j : ℕ). behind_word j w os) (let e : k ≡ k + 0 = omega arith in e)
one_more k os (v ∷ ws) w =
    let e : (k + 1) + length ws ≡ k + length (v ∷ ws) = omega arith in
    one_more (k + 1) (behind_word k v os) ws w ∙ ap (λ (j : ℕ). behind_word j w (open_behind (k + 1) (behind_word k v os) ws)) e

so_many : (k : ℕ) (ws : List Word) → k ≤ length ws → length (take k ws) ≡ k
so_many zero ws le = refl
so_many (suc k) [] le = absurd (omega (arith, le))
so_many (suc k) (w ∷ ws) le = ap suc (so_many k ws (omega (arith, le)))

module _ (z : List ℕ) (ts : List Token) (k : ℕ) (d : Token) (w : Word) (is : w ≡ word_of z (get_or ts k d)) (lt : k < length ts) where
  longer : take (k + 1) (words_of z ts) ≡ take k (words_of z ts) ++ w ∷ []
  longer =
      let i : k + 1 ≡ suc k = omega arith in
      ap (λ (j : ℕ). take j (words_of z ts)) i ∙ one_longer k (words_of z ts) (drop (suc k) (words_of z ts)) (word_of z (get_or ts k d)) (token_at z k ts d lt)
      ∙ ap (λ (x : Word). take k (words_of z ts) ++ x ∷ []) (sym is)

  marks_next : (os new : List OpenMark) → os ≡ open_behind 0 [] (take k (words_of z ts)) → new ≡ behind_word k w os → new ≡ open_behind 0 [] (take (k + 1) (words_of z ts))
  marks_next os new e f =
      let n : k ≡ 0 + length (take k (words_of z ts)) = omega (arith, lt, length-words z ts, so_many k (words_of z ts) (omega (arith, lt, length-words z ts))) in
      f ∙ ap (behind_word k w) e ∙ ap (λ (j : ℕ). behind_word j w (open_behind 0 [] (take k (words_of z ts)))) n
      ∙ sym (one_more 0 [] (take k (words_of z ts)) w) ∙ ap (open_behind 0 []) (sym longer)

  pub gone_on : (old new : Way) → Gone (take k (words_of z ts)) old → Passed w k old new true → Gone (take (k + 1) (words_of z ts)) new
  gone_on old new g p = record {
    walked = next_behind z ts k d old.walk.levels new.walk.levels (stacked old.walk.stack.items) (stacked new.walk.stack.items) lt g.walked
        (subst (λ (x : Word). Takes old.walk.levels (stacked old.walk.stack.items) x new.walk.levels (stacked new.walk.stack.items)) is p.0);
    marks = marks_next old.marks.items new.marks.items g.marks p.1;
  }

  pub stops : (old new : Way) → AreLettered (words_of z ts) → Gone (take k (words_of z ts)) old → Passed w k old new false → IsStop (words_of z ts) (record { number = k; way = new })
  stops old new l g p = record {
    first = wrong_token z ts k d old.walk.levels (stacked old.walk.stack.items) l lt g.walked.stood.reached
        (λ j next t. p.0 j next (subst (λ (x : Word). Takes old.walk.levels (stacked old.walk.stack.items) x j next) (sym is) t));
    stands = subst (λ (v : Walk). StandsBehind (words_of z ts) k v.levels (stacked v.stack.items)) (sym p.1)
        (stands_behind (words_of z ts) k k old.walk.levels (stacked old.walk.stack.items) l (omega arith) (omega arith) g.walked);
    open_there = ap (λ ms. ms.items) p.2 ∙ g.marks;
  }

module _ (z : List ℕ) (ts : List Token) (k : ℕ) (v : Way) (l : AreLettered (words_of z ts)) (le : k ≤ length ts) (ge : length ts ≤ k) (g : Gone (take k (words_of z ts)) v) where
  pub all_gone : length v.walk.stack.items ≡ 0 → IsFileWords (words_of z ts)
  all_gone none = follows_all z ts k v.walk.levels v.walk.stack.items l le ge g.walked.stood.reached none

  pub stops_behind : (length v.walk.stack.items ≡ 0 → ⊥) → IsStop (words_of z ts) (record { number = length ts; way = v })
  stops_behind some =
      let same : k ≡ length ts = omega (arith, le, ge) in
      record {
        first = ends_early z ts k v.walk.levels v.walk.stack.items l le ge g.walked.stood.reached some;
        stands = stands_behind (words_of z ts) k (length ts) v.walk.levels (stacked v.walk.stack.items) l le ge g.walked;
        open_there = g.marks ∙ ap (λ (j : ℕ). open_behind 0 [] (take j (words_of z ts))) same;
      }
