-- The words that may stand behind words of a file are those that the walk takes there.
use Rattle.std.proofs.Common.{◌≡◌, ◌≤◌, ◌<◌, ◌+◌, ℕ, zero, suc, true, List, [], ◌∷◌, ◌++◌, append_assoc, refl, sym, ap, ◌∙◌, subst, arith, length, get_or, take, drop}
use Rattle.sap_terms.specs.Signature.{pairs_alone}
use Rattle.sap_text.specs.declared.token.Token.{Token}
use Rattle.sap_grammar.specs.Words.{Word, word_of, words_of}
use Rattle.sap_grammar.proofs.ReadingLaws.Tokens.{length-words}
use Rattle.sap_expect.specs.FileTable.{Open, Reads, Takes, file}
use Rattle.sap_expect.specs.FileWords.{IsFileWords}
use Rattle.sap_expect.specs.FirstWrong.{GoOn, IsFirstWrong}
use Rattle.sap_expect.specs.Letters.{AreLettered, IsLettered}
use Rattle.sap_expect.specs.Levels.{AreTaken, none_taken}
use Rattle.sap_expect.specs.MayStand.{MayStand}
use Rattle.sap_expect.specs.code.Going.{CanGo, StandsAt, StandsBehind, listed}
use Rattle.sap_expect.proofs.Ends.{ends}
use Rattle.sap_expect.proofs.FirstWrong.{Reached, at_start, next_token, one_further, one_longer, token_at, wrong_token}
use Rattle.sap_expect.proofs.FollowItems.{file_follows}
use Rattle.sap_expect.proofs.KindListed.{listed_on}
use Rattle.sap_expect.proofs.OnRows.{taken_first}
use Rattle.sap_expect.proofs.SpelledItems.{file_spelled}
use Rattle.sap_expect.proofs.Taken.{lettered_both, taken_more}

-- the words up to here go from a file to this, all of which the table has
pub record Stood (ws : List Word) (n : ℕ) (us : List Open) : Type 0 where
  pub reached : Reached ws n us
  pub all_listed : listed us ≡ true

pub first_stood : Stood [] 0 file
first_stood = record { reached = at_start; all_listed = refl }

may : (ws : List Word) (w : Word) (n k : ℕ) (us next : List Open) → AreLettered ws → IsLettered w → Reached ws n us → Takes n us w k next → MayStand ws w
may ws w n k us next l m r t =
    let further = one_further r t in
    let e = ends next further.close in
    let whole : (ws ++ w ∷ []) ++ e.words ≡ ws ++ w ∷ e.words = append_assoc ws (w ∷ []) e.words in
    let all : AreLettered (ws ++ w ∷ e.words) = lettered_both ws (w ∷ e.words) l (m, e.lettered) in
    (e.words, file_spelled pairs_alone (ws ++ w ∷ e.words) all (subst (λ (x : List Word). Reads 0 file x) whole (further.goes.on e.words (e.reads k))))

goes : (ws : List Word) (w : Word) (n : ℕ) (us : List Open) → Reached ws n us → MayStand ws w → CanGo n us w
goes ws w n us r h =
    let t = taken_first (r.goes.back (w ∷ h.0) (file_follows (ws ++ w ∷ h.0) h.1)) in
    (t.0, t.1, t.2)

pub stands_at : (ws : List Word) (n : ℕ) (us : List Open) → AreLettered ws → Stood ws n us → StandsAt ws n us
stands_at ws n us l s = record {
  only_listed = s.all_listed;
  on = λ w m g. may ws w n g.0 us g.1 l m s.reached g.2;
  back = λ w h. goes ws w n us s.reached h;
}

pub next_stood : (z : List ℕ) (ts : List Token) (k : ℕ) (d : Token) (n j : ℕ) (us next : List Open) → k < length ts → Stood (take k (words_of z ts)) n us
    → Takes n us (word_of z (get_or ts k d)) j next → Stood (take (k + 1) (words_of z ts)) j next
next_stood z ts k d n j us next lt s t = record { reached = next_token z ts k d n j us next lt s.reached t; all_listed = listed_on t s.all_listed }

split : (k : ℕ) (ws : List Word) → take k ws ++ drop k ws ≡ ws
split zero ws = refl
split (suc k) [] = refl
split (suc k) (w ∷ ws) = ap (λ (x : List Word). w ∷ x) (split k ws)

-- behind a wrong word nothing may
pub none_wrong : (ws : List Word) (k : ℕ) → k < length ws → IsFirstWrong IsFileWords ws k → (w : Word) → MayStand ws w → ⊥
none_wrong ws k lt h w m =
    let front : take (k + 1) ws ++ (drop (k + 1) ws ++ w ∷ m.0) ≡ ws ++ w ∷ m.0 =
    sym (append_assoc (take (k + 1) ws) (drop (k + 1) ws) (w ∷ m.0)) ∙ ap (λ (x : List Word). x ++ w ∷ m.0) (split (k + 1) ws) in
    h.wrong lt (drop (k + 1) ws ++ w ∷ m.0, subst IsFileWords (sym front) m.1)

pub take_take : (k j : ℕ) (ws : List Word) → k ≤ j → take k (take j ws) ≡ take k ws
take_take zero j ws le = refl
take_take (suc k) zero ws le = absurd (omega (arith, le))
take_take (suc k) (suc j) [] le = refl
take_take (suc k) (suc j) (w ∷ ws) le = ap (λ (x : List Word). w ∷ x) (take_take k j ws (omega (arith, le)))

-- what goes on goes on from fewer words
pub front_goes : (k : ℕ) (ws : List Word) → GoOn IsFileWords ws → GoOn IsFileWords (take k ws)
front_goes k ws h =
    (drop k ws ++ h.0, subst IsFileWords (sym (sym (append_assoc (take k ws) (drop k ws) h.0) ∙ ap (λ (x : List Word). x ++ h.0) (split k ws))) h.1)

pub none_behind_wrong : (z : List ℕ) (ts : List Token) (k count : ℕ) (d : Token) (n : ℕ) (us : List Open) → AreLettered (words_of z ts) → k < count → count ≤ length ts
    → Stood (take k (words_of z ts)) n us → ((j : ℕ) (next : List Open) → Takes n us (word_of z (get_or ts k d)) j next → ⊥) → GoOn IsFileWords (take count (words_of z ts)) → ⊥
none_behind_wrong z ts k count d n us l lt le s f h =
    let wrong = wrong_token z ts k d n us l (omega (arith, lt, le)) s.reached f in
    wrong.wrong (omega (arith, lt, le, length-words z ts))
    (subst (λ (x : List Word). GoOn IsFileWords x) (take_take (k + 1) count (words_of z ts) (omega (arith, lt))) (front_goes (k + 1) (take count (words_of z ts)) h))

-- the words up to here stand, and are taken
pub record Walked (ws : List Word) (n : ℕ) (us : List Open) : Type 0 where
  pub stood : Stood ws n us
  pub taken : AreTaken 0 file ws n us

pub first_behind : Walked [] 0 file
first_behind = record { stood = first_stood; taken = none_taken }

pub next_behind : (z : List ℕ) (ts : List Token) (k : ℕ) (d : Token) (n j : ℕ) (us next : List Open) → k < length ts → Walked (take k (words_of z ts)) n us
    → Takes n us (word_of z (get_or ts k d)) j next → Walked (take (k + 1) (words_of z ts)) j next
next_behind z ts k d n j us next lt b t =
    let i : k + 1 ≡ suc k = omega arith in
    let front : take (k + 1) (words_of z ts) ≡ take k (words_of z ts) ++ (word_of z (get_or ts k d) ∷ []) =
    ap (λ (j : ℕ). take j (words_of z ts)) i ∙ one_longer k (words_of z ts) (drop (suc k) (words_of z ts)) (word_of z (get_or ts k d)) (token_at z k ts d lt) in
    record { stood = next_stood z ts k d n j us next lt b.stood t; taken = subst (λ (x : List Word). AreTaken 0 file x j next) (sym front) (taken_more b.taken t) }

pub lettered_front : (k : ℕ) (ws : List Word) → AreLettered ws → AreLettered (take k ws)
lettered_front zero ws l = tt
lettered_front (suc k) [] l = tt
lettered_front (suc k) (w ∷ ws) l = (l.0, lettered_front k ws l.1)

pub stands_behind : (ws : List Word) (k count n : ℕ) (us : List Open) → AreLettered ws → k ≤ count → count ≤ k → Walked (take k ws) n us → StandsBehind ws count n us
stands_behind ws k count n us l le ge b =
    let same : k ≡ count = omega (arith, le, ge) in
    subst (λ (j : ℕ). StandsBehind ws j n us) same (stands_at (take k ws) n us (lettered_front k ws l) b.stood, b.taken)
