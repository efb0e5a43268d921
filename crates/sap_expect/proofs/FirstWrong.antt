-- Which word is the first with which no file goes on.
use Rattle.std.proofs.Common.{◌≡◌, ◌≤◌, ◌<◌, ◌+◌, ℕ, zero, suc, true, List, [], ◌∷◌, ◌++◌, append_assoc, refl, sym, ap, ◌∙◌, subst, arith, length, get_or, take, drop}
use Rattle.std.proofs.lemmas.List.{append-nil}
use Rattle.std.proofs.lemmas.List.{length-map, length-reverse}
use Rattle.std.specs.Prelude.{map}
use Rattle.sap_terms.proofs.PlainLaws.Lists.{front_self}
use Rattle.sap_terms.specs.Signature.{pairs_alone}
use Rattle.sap_text.specs.declared.token.Token.{Token}
use Rattle.sap_grammar.specs.Words.{Word, word_of, words_of}
use Rattle.sap_grammar.proofs.ReadingLaws.Tokens.{length-words}
use Rattle.sap_expect.specs.FileTable.{Open, Reads, Takes, file, reads_end, reads_word}
use Rattle.sap_expect.specs.FileWords.{IsFileWords}
use Rattle.sap_expect.specs.FirstWrong.{IsFirstWrong}
use Rattle.sap_expect.specs.Letters.{AreLettered}
use Rattle.sap_expect.specs.declared.wanted.Wanted as code
use Rattle.sap_expect.specs.code.WantedView.{open_of, stacked}
use Rattle.sap_expect.proofs.Ends.{ends}
use Rattle.sap_expect.proofs.FollowItems.{file_follows}
use Rattle.sap_expect.proofs.Quiet.{closes, closes_on}
use Rattle.sap_expect.proofs.SpelledItems.{file_spelled}
use Rattle.sap_expect.proofs.Takes.{Goes, goes_more, goes_none, reads_none}

parted : (k : ℕ) (ws rest : List Word) (w : Word) → drop k ws ≡ w ∷ rest → ws ≡ take k ws ++ (w ∷ rest)
parted zero ws rest w e = e
parted (suc k) [] rest w e = absurd (cc)
parted (suc k) (v ∷ ws) rest w e = ap (λ (x : List Word). v ∷ x) (parted k ws rest w e)

pub one_longer : (k : ℕ) (ws rest : List Word) (w : Word) → drop k ws ≡ w ∷ rest → take (suc k) ws ≡ take k ws ++ (w ∷ [])
one_longer zero [] rest w e = absurd (cc)
one_longer zero (v ∷ ws) rest w e =
    let same : v ≡ w = cc in
    ap (λ (x : Word). x ∷ []) same
one_longer (suc k) [] rest w e = absurd (cc)
one_longer (suc k) (v ∷ ws) rest w e = ap (λ (x : List Word). v ∷ x) (one_longer k ws rest w e)

not_all : (k : ℕ) (ws rest : List Word) (w : Word) → drop k ws ≡ w ∷ rest → k < length ws
not_all zero [] rest w e = absurd (cc)
not_all zero (v ∷ ws) rest w e = omega arith
not_all (suc k) [] rest w e = absurd (cc)
not_all (suc k) (v ∷ ws) rest w e = omega (arith, not_all k ws rest w e)

front_lettered : (k : ℕ) (ws more : List Word) → AreLettered ws → AreLettered more → AreLettered (take k ws ++ more)
front_lettered zero ws more l m = m
front_lettered (suc k) [] more l m = m
front_lettered (suc k) (w ∷ ws) more l m = (l.0, front_lettered k ws more l.1 m)

-- the words up to here go from a file to this, which can be had
pub record Reached (ws : List Word) (n : ℕ) (us : List Open) : Type 0 where
  pub goes : Goes 0 file ws n us
  pub close : closes us ≡ true

pub at_start : Reached [] 0 file
at_start = record { goes = goes_none 0 file; close = refl }

pub one_further : {ws : List Word} {n k : ℕ} {us next : List Open} {w : Word} → Reached ws n us → Takes n us w k next → Reached (ws ++ w ∷ []) k next
one_further {ws = ws} {n = n} {k = k} {us = us} {next = next} {w = w} r t = record { goes = goes_more 0 file n us k next ws w r.goes t; close = closes_on t r.close }

goes_no_further : (n : ℕ) (us : List Open) (pre rest : List Word) (w : Word) → Goes 0 file pre n us → ((k : ℕ) (next : List Open) → Takes n us w k next → ⊥) → Reads 0 file (pre ++ (w ∷ rest)) → ⊥
goes_no_further n us pre rest w g never r = reads_none n us w rest never (g.back (w ∷ rest) r)

module _ (ws : List Word) (lettered : AreLettered ws) (k n : ℕ) (us : List Open) (r : Reached (take k ws) n us) where
  -- the words up to here go on to a file's
  some_file : (rest : List Word) × IsFileWords (take k ws ++ rest)
  some_file =
      let e = ends us r.close in
      (e.words, file_spelled pairs_alone (take k ws ++ e.words) (front_lettered k ws e.words lettered e.lettered) (r.goes.on e.words (e.reads n)))

  pub wrong_at : (w : Word) (rest : List Word) → drop k ws ≡ w ∷ rest → ((j : ℕ) (next : List Open) → Takes n us w j next → ⊥) → IsFirstWrong IsFileWords ws k
  wrong_at w rest e never = record {
    isnt = λ f. goes_no_further n us (take k ws) rest w r.goes never (subst (λ (x : List Word). Reads 0 file x) (parted k ws rest w e) (file_follows ws f));
    inside = omega (arith, not_all k ws rest w e);
    before = some_file;
    wrong = λ lt h. goes_no_further n us (take k ws) h.0 w r.goes never (subst (λ (x : List Word). Reads 0 file x) (longer h.0) (file_follows (take (k + 1) ws ++ h.0) h.1));
  }
    where
      longer : (more : List Word) → take (k + 1) ws ++ more ≡ take k ws ++ (w ∷ more)
      longer more =
          let n : k + 1 ≡ suc k = omega arith in
          ap (λ (j : ℕ). take j ws ++ more) n
          ∙ (ap (λ (x : List Word). x ++ more) (one_longer k ws rest w e) ∙ append_assoc (take k ws) (w ∷ []) more)

  no_end : (vs : List Open) → (vs ≡ [] → ⊥) → Reads n vs [] → ⊥
  no_end [] never q = never refl
  no_end (v ∷ vs) never q = by [] q refl
    where
      by : (ws : List Word) → Reads n (v ∷ vs) ws → ◌≡◌ {A = List Word} ws [] → ⊥
      by ws (reads_word t q) e = absurd (cc (e))

  pub end_at : k ≡ length ws → (us ≡ [] → ⊥) → IsFirstWrong IsFileWords ws k
  end_at e never = record {
    isnt = λ f. no_end us never (r.goes.back [] (subst (λ (x : List Word). Reads 0 file x) (sym (append-nil (take k ws) ∙ whole)) (file_follows ws f)));
    inside = omega (arith, e);
    before = some_file;
    wrong = λ lt h. absurd (omega (arith, lt, e));
  }
    where
      whole : take k ws ≡ ws
      whole = ap (λ (j : ℕ). take j ws) e ∙ front_self ws

  pub follows : k ≡ length ws → us ≡ [] → IsFileWords ws
  follows e none =
      let whole : take k ws ≡ ws = ap (λ (j : ℕ). take j ws) e ∙ front_self ws in
      file_spelled pairs_alone ws lettered
      (subst (λ (x : List Word). Reads 0 file x) (append-nil (take k ws) ∙ whole) (r.goes.on [] (subst (λ (x : List Open). Reads n x []) (sym none) reads_end)))

-- the same by the token of this number
pub token_at : (z : List ℕ) (k : ℕ) (ts : List Token) (d : Token) → k < length ts → drop k (words_of z ts) ≡ word_of z (get_or ts k d) ∷ drop (suc k) (words_of z ts)
token_at z k [] d lt = absurd (omega (arith, lt))
token_at z zero (u ∷ ts) d lt = refl
token_at z (suc k) (u ∷ ts) d lt = token_at z k ts d (omega (arith, lt))

pub wrong_token : (z : List ℕ) (ts : List Token) (k : ℕ) (d : Token) (n : ℕ) (us : List Open) → AreLettered (words_of z ts) → k < length ts → Reached (take k (words_of z ts)) n us
    → ((j : ℕ) (next : List Open) → Takes n us (word_of z (get_or ts k d)) j next → ⊥) → IsFirstWrong IsFileWords (words_of z ts) k
wrong_token z ts k d n us l lt r f = wrong_at (words_of z ts) l k n us r (word_of z (get_or ts k d)) (drop (suc k) (words_of z ts)) (token_at z k ts d lt) f

pub next_token : (z : List ℕ) (ts : List Token) (k : ℕ) (d : Token) (n j : ℕ) (us next : List Open) → k < length ts → Reached (take k (words_of z ts)) n us
    → Takes n us (word_of z (get_or ts k d)) j next → Reached (take (k + 1) (words_of z ts)) j next
next_token z ts k d n j us next lt r t =
    let i : suc k ≡ k + 1 = omega arith in
    subst (λ (ws : List Word). Reached ws j next)
    (sym (one_longer k (words_of z ts) (drop (suc k) (words_of z ts)) (word_of z (get_or ts k d)) (token_at z k ts d lt)) ∙ ap (λ (j : ℕ). take j (words_of z ts)) i)
    (one_further r t)

all_words : (z : List ℕ) (ts : List Token) (k : ℕ) → k ≤ length ts → length ts ≤ k → k ≡ length (words_of z ts)
all_words z ts k le ge = omega (arith, le, ge, length-words z ts)

stacked-length : (vs : List (code.Wanted × ℕ)) → length (stacked vs) ≡ length vs
stacked-length vs = length-reverse (map open_of vs) ∙ length-map vs open_of

nothing : (us : List Open) → length us ≡ 0 → us ≡ []
nothing [] e = refl
nothing (v ∷ us) e = absurd (omega (arith, e))

pub follows_all : (z : List ℕ) (ts : List Token) (k n : ℕ) (vs : List (code.Wanted × ℕ)) → AreLettered (words_of z ts) → k ≤ length ts → length ts ≤ k
    → Reached (take k (words_of z ts)) n (stacked vs) → length vs ≡ 0 → IsFileWords (words_of z ts)
follows_all z ts k n vs l le ge r none = follows (words_of z ts) l k n (stacked vs) r (all_words z ts k le ge) (nothing (stacked vs) (stacked-length vs ∙ none))

pub ends_early : (z : List ℕ) (ts : List Token) (k n : ℕ) (vs : List (code.Wanted × ℕ)) → AreLettered (words_of z ts) → k ≤ length ts → length ts ≤ k
    → Reached (take k (words_of z ts)) n (stacked vs) → (length vs ≡ 0 → ⊥) → IsFirstWrong IsFileWords (words_of z ts) (length ts)
ends_early z ts k n vs l le ge r some =
    let same : k ≡ length ts = omega (arith, le, ge) in
    subst (λ (j : ℕ). IsFirstWrong IsFileWords (words_of z ts) j) same
    (end_at (words_of z ts) l k n (stacked vs) r (all_words z ts k le ge) (λ e. some (sym (stacked-length vs) ∙ ap length e)))
