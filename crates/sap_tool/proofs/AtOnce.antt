-- The words that ask for what is told at once.
use Rattle.std.proofs.Common.{◌≡◌, ℕ, List, [], ◌∷◌, refl, sym, ap, subst, ◌∙◌, arith, decimal}
use Rattle.std.specs.Prelude.{codes}
use Rattle.std.proofs.lemmas.Fmt.{decimal_injective}
use Rattle.sap_tool.specs.Call.{Call}
use Rattle.sap_pages.specs.Pages.{IsPageOf}
use Rattle.sap_replay.specs.Sample.{IsSample, sample_words, sample_text}
use Rattle.sap_tool.specs.ToldAtOnce.{IsHelp, flag, list, page, version, IsToldAtOnce, sample, help}
use Rattle.sap_answer.specs.Answer.{gives}
use Rattle.sap_tool.specs.Answers.{IsAnswer, told_at_once, usage, asked_nothing}
use Rattle.sap_tool.specs.code.Endings.{Ends}
use Rattle.sap_tool.specs.code.Sampled.{EndsSample}
use Rattle.sap_answer.specs.declared.ending.Ending.{Ending}
use Rattle.sap_tool.proofs.Asked.{no_sample_word, second_of, apart}
use Rattle.sap_answer.specs.declared.ending.Ending.TheVariants as ending

-- words that ask for a sample ask for one of so many sessions
pub one_sample : (words : List (List ℕ)) (m n : ℕ) → IsSample words m → IsSample words n → m ≡ n
one_sample words m n h k =
    let most = h.most in
    let most_too = k.most in
    let both : sample_words m ≡ sample_words n = sym h.spelled ∙ k.spelled in
    let spelled : decimal m ≡ decimal n = cc in
    decimal_injective m n (omega (arith, most)) (omega (arith, most_too)) spelled

-- a word has one page at most, as is a law of the pages
abbrev pub OnePage : Type 0
OnePage = (word t u : List ℕ) → IsPageOf word t → IsPageOf word u → t ≡ u

-- words that ask for help ask for one text
pub one_help : OnePage → (words : List (List ℕ)) (t u : List ℕ) → IsHelp words t → IsHelp words u → t ≡ u
one_help only words _ _ (flag e) (flag f) = refl
one_help only words _ _ (flag e) (list f) = refl
one_help only words _ _ (flag e) (page w u f q) = apart 0 2 words _ _ e f refl refl (λ d. omega (arith, d))
one_help only words _ _ (flag e) (version f) = apart 0 1 words _ _ e f refl refl (λ d. omega (arith, d))
one_help only words _ _ (list e) (flag f) = refl
one_help only words _ _ (list e) (list f) = refl
one_help only words _ _ (list e) (page w u f q) = apart 0 2 words _ _ e f refl refl (λ d. omega (arith, d))
one_help only words _ _ (list e) (version f) = apart 0 1 words _ _ e f refl refl (λ d. omega (arith, d))
one_help only words _ _ (page v t e p) (flag f) = apart 2 0 words _ _ e f refl refl (λ d. omega (arith, d))
one_help only words _ _ (page v t e p) (list f) = apart 2 0 words _ _ e f refl refl (λ d. omega (arith, d))
one_help only words _ _ (page v t e p) (page w u f q) =
    let same : v ≡ w = ap second_of (sym e ∙ f) in
    only w t u (subst (λ (x : List ℕ). IsPageOf x t) same p) q
one_help only words _ _ (page v t e p) (version f) = apart 2 1 words _ _ e f refl refl (λ d. omega (arith, d))
one_help only words _ _ (version e) (flag f) = apart 1 0 words _ _ e f refl refl (λ d. omega (arith, d))
one_help only words _ _ (version e) (list f) = apart 1 0 words _ _ e f refl refl (λ d. omega (arith, d))
one_help only words _ _ (version e) (page w u f q) = apart 1 2 words _ _ e f refl refl (λ d. omega (arith, d))
one_help only words _ _ (version e) (version f) = refl

-- words that seem to ask for a sample ask for no help
pub no_help_is_sample : (words : List (List ℕ)) (word text : List ℕ) → words ≡ codes "sample" ∷ word ∷ [] → IsHelp words text → ⊥
no_help_is_sample words word _ is (flag e) = apart 0 3 words _ _ e is refl refl (λ d. omega (arith, d))
no_help_is_sample words word _ is (list e) = apart 0 3 words _ _ e is refl refl (λ d. omega (arith, d))
no_help_is_sample words word _ is (page w t e p) = apart 2 3 words _ _ e is refl refl (λ d. omega (arith, d))
no_help_is_sample words word _ is (version e) = apart 1 3 words _ _ e is refl refl (λ d. omega (arith, d))

-- words are told one text at once
pub one_told : OnePage → (words : List (List ℕ)) (t u : List ℕ) → IsToldAtOnce words t → IsToldAtOnce words u → t ≡ u
one_told only words _ _ (sample m h) (sample n k) = ap sample_text (one_sample words m n h k)
one_told only words _ u (sample m h) (help _ k) = absurd (no_help_is_sample words (decimal m) u h.spelled k)
one_told only words t _ (help _ h) (sample n k) = absurd (no_help_is_sample words (decimal n) t k.spelled h)
one_told only words t u (help _ h) (help _ k) = one_help only words t u h k

-- what a call ends with that asks for a sample
pub ends_of_sample : (c : Call) (word : List ℕ) (e : Ending) → c.words ≡ codes "sample" ∷ word ∷ [] → c.after.asked ≡ c.before.asked
    → EndsSample (codes "sample" ∷ word ∷ []) e → Ends c e
ends_of_sample c word (ending.Given text) is same h =
    subst (λ (y : List ℕ). IsAnswer c (gives y)) (sym h.2)
    (told_at_once (sample_text h.0) (sample h.0 (subst (λ (ws : List (List ℕ)). IsSample ws h.0) (sym is) h.1)) same)
ends_of_sample c word (ending.Help text) is same h = absurd h
ends_of_sample c word ending.Usage is same h =
    usage (record {
      no_command = λ k asks. no_sample_word k word (sym is ∙ asks);
      no_text = no_text;
    }) same where
      no_text : (text : List ℕ) → IsToldAtOnce c.words text → ⊥
      no_text _ (sample n s) = h n (subst (λ (ws : List (List ℕ)). IsSample ws n) is s)
      no_text text (help _ k) = no_help_is_sample c.words word text is k
ends_of_sample c word ending.Unread is same h = absurd h
ends_of_sample c word (ending.File line) is same h = absurd h
ends_of_sample c word (ending.Run line) is same h = absurd h
ends_of_sample c word ending.Mem is same h = asked_nothing same
