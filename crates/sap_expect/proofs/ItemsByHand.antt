-- Where small files are wrong.
use Rattle.std.proofs.Common.{◌≡◌, ◌≤◌, ◌<◌, ◌+◌, ℕ, zero, suc, Bool, true, false, List, [], ◌∷◌, ◌++◌, Option, Some, None, append_assoc, refl, ap, ◌∙◌, subst, arith, length, take, drop}
use Rattle.std.proofs.lemmas.List.{append-nil}
use Rattle.std.specs.Prelude.{◌&&◌}
use Rattle.std.specs.List.{list_all}
use Rattle.sap_terms.proofs.PlainLaws.Numbers.{same_number}
use Rattle.sap_terms.specs.Signature.{pairs_alone}
use Rattle.sap_grammar.specs.Words.{Word}
use Rattle.sap_expect.specs.FileTable.{Open, Reads, file, reads_end}
use Rattle.sap_expect.specs.FileWords.{IsFileWords}
use Rattle.sap_expect.specs.ItemExamples.{another_attribute, another_builtin, another_privacy, behind_nil, capital_symbol, empty_use, endless, large_arity, last_comma, name_apart, no_binders, no_time, one_else, one_inserted, one_part, persistent_act, reserved_name, signed_entry, small_event, three_terms, two_elses, two_equivalences, two_times, unclosed, with_arguments, with_comma}
use Rattle.sap_expect.specs.FirstWrong.{GoOn, IsFirstWrong}
use Rattle.sap_expect.proofs.Ends.{all_lettered, is_lettered}
use Rattle.sap_expect.proofs.FirstWrong.{Reached, end_at, wrong_at}
use Rattle.sap_expect.proofs.Quiet.{both_true, closes}
use Rattle.sap_expect.proofs.Reaching.{Answer, State, next_at, next_told, reach, reach_goes, turns}
use Rattle.sap_expect.proofs.SpelledItems.{file_spelled}

split : (m n : ℕ) (ws : List Word) → m ≤ n → take n ws ≡ take m ws ++ drop m (take n ws)
split zero n ws le = refl
split (suc m) zero ws le = absurd (omega (arith, le))
split (suc m) (suc n) [] le = refl
split (suc m) (suc n) (w ∷ ws) le = ap (λ (vs : List Word). w ∷ vs) (split m n ws (omega (arith, le)))

-- what goes on does so with fewer words
fewer : (Is : List Word → Type 0) (m n : ℕ) (ws : List Word) → m ≤ n → GoOn Is (take n ws) → GoOn Is (take m ws)
fewer Is m n ws le g =
    let cut : take n ws ++ g.0 ≡ take m ws ++ (drop m (take n ws) ++ g.0) =
    ap (λ (vs : List Word). vs ++ g.0) (split m n ws le) ∙ append_assoc (take m ws) (drop m (take n ws)) g.0 in
    (drop m (take n ws) ++ g.0, subst Is cut g.1)

not_wrong : (Is : List Word → Type 0) (ws : List Word) (j k : ℕ) → IsFirstWrong Is ws j → IsFirstWrong Is ws k → j < k → ⊥
not_wrong Is ws j k a b lt =
    let most = b.inside in
    a.wrong (omega (arith, lt, most)) (fewer Is (j + 1) k ws (omega (arith, lt)) b.before)

pub one_wrong : (Is : List Word → Type 0) (ws : List Word) (j k : ℕ) → IsFirstWrong Is ws j → IsFirstWrong Is ws k → j ≡ k
one_wrong Is ws j k a b = same_number j k (not_wrong Is ws j k a b) (not_wrong Is ws k j b a)

abbrev start : State
start = (0, file)

abbrev is_refused : Answer → Bool
is_refused None = false
is_refused (Some None) = true
is_refused (Some (Some next)) = false

-- what is wanted doesn't go on with the words
abbrev is_stuck : State → List Word → Bool
is_stuck (n, []) [] = false
is_stuck (n, v ∷ vs) [] = true
is_stuck s (w ∷ ws) = is_refused (next_at turns s w)

abbrev is_stuck_behind : Option State → List Word → Bool
is_stuck_behind None ws = false
is_stuck_behind (Some s) ws = closes s.1 && is_stuck s ws

abbrev is_wrong_at : List Word → ℕ → Bool
is_wrong_at ws k = is_stuck_behind (reach start (take k ws)) (drop k ws)

refused : (o : Answer) → is_refused o ≡ true → o ≡ Some None
refused None e = absurd (cc)
refused (Some None) e = refl
refused (Some (Some next)) e = absurd (cc)

short : (k : ℕ) (ws : List Word) → k ≤ length ws → drop k ws ≡ [] → k ≡ length ws
short zero [] le e = refl
short zero (w ∷ ws) le e = absurd (cc)
short (suc k) [] le e = absurd (omega (arith, le))
short (suc k) (w ∷ ws) le e = ap suc (short k ws (omega (arith, le)) e)

not_empty : (v : Open) (vs : List Open) → ◌≡◌ {A = List Open} (v ∷ vs) [] → ⊥
not_empty v vs e = absurd (cc)

reached : (ws : List Word) (k : ℕ) (s : State) → reach start (take k ws) ≡ Some s → closes s.1 ≡ true → Reached (take k ws) s.0 s.1
reached ws k s f c = record { goes = reach_goes start (take k ws) s f; close = c }

pub computed : (ws : List Word) (k : ℕ) → k ≤ length ws → list_all is_lettered ws ≡ true → is_wrong_at ws k ≡ true → IsFirstWrong IsFileWords ws k
computed ws k le l e = by (reach start (take k ws)) refl (drop k ws) refl e
  where
    stuck : (s : State) → reach start (take k ws) ≡ Some s → closes s.1 ≡ true → (rest : List Word) → drop k ws ≡ rest → is_stuck s rest ≡ true → IsFirstWrong IsFileWords ws k
    stuck (n, []) f c [] g h = absurd (cc)
    stuck (n, v ∷ vs) f c [] g h = end_at ws (all_lettered ws l) k n (v ∷ vs) (reached ws k (n, v ∷ vs) f c) (short k ws le g) (not_empty v vs)
    stuck s f c (w ∷ rest) g h = wrong_at ws (all_lettered ws l) k s.0 s.1 (reached ws k s f c) w rest g (next_told turns s w None (refused (next_at turns s w) h))

    by : (o : Option State) → reach start (take k ws) ≡ o → (rest : List Word) → drop k ws ≡ rest → is_stuck_behind o rest ≡ true → IsFirstWrong IsFileWords ws k
    by None f rest g h = absurd (cc)
    by (Some s) f rest g h =
        let b = both_true (closes s.1) (is_stuck s rest) h in
        stuck s f b.0 rest g b.1

-- nothing is wanted behind the words
abbrev is_done : Option State → Bool
is_done None = false
is_done (Some (n, [])) = true
is_done (Some (n, v ∷ vs)) = false

done : (ws : List Word) → list_all is_lettered ws ≡ true → is_done (reach start ws) ≡ true → IsFileWords ws
done ws l e = by (reach start ws) refl e
  where
    by : (o : Option State) → reach start ws ≡ o → is_done o ≡ true → IsFileWords ws
    by None f h = absurd (cc)
    by (Some (n, [])) f h =
        file_spelled pairs_alone ws (all_lettered ws l) (subst (λ (x : List Word). Reads 0 file x) (append-nil ws) ((reach_goes start ws (n, []) f).on [] reads_end))
    by (Some (n, v ∷ vs)) f h = absurd (cc)

pub unclosed_wrong : IsFirstWrong IsFileWords unclosed 7
unclosed_wrong = computed unclosed 7 (omega arith) refl refl

pub endless_wrong : IsFirstWrong IsFileWords endless 6
endless_wrong = computed endless 6 (omega arith) refl refl

pub comma_wrong : IsFirstWrong IsFileWords with_comma 9
comma_wrong = computed with_comma 9 (omega arith) refl refl

pub else_wrong : IsFirstWrong IsFileWords two_elses 13
else_wrong = computed two_elses 13 (omega arith) refl refl

pub arity_wrong : IsFirstWrong IsFileWords large_arity 7
arity_wrong = computed large_arity 7 (omega arith) refl refl

pub equivalence_wrong : IsFirstWrong IsFileWords two_equivalences 10
equivalence_wrong = computed two_equivalences 10 (omega arith) refl refl

pub empty_use_wrong : IsFirstWrong IsFileWords empty_use 7
empty_use_wrong = computed empty_use 7 (omega arith) refl refl

pub name_apart_wrong : IsFirstWrong IsFileWords name_apart 8
name_apart_wrong = computed name_apart 8 (omega arith) refl refl

pub last_comma_wrong : IsFirstWrong IsFileWords last_comma 8
last_comma_wrong = computed last_comma 8 (omega arith) refl refl

pub another_builtin_wrong : IsFirstWrong IsFileWords another_builtin 5
another_builtin_wrong = computed another_builtin 5 (omega arith) refl refl

pub capital_symbol_wrong : IsFirstWrong IsFileWords capital_symbol 5
capital_symbol_wrong = computed capital_symbol 5 (omega arith) refl refl

pub another_privacy_wrong : IsFirstWrong IsFileWords another_privacy 9
another_privacy_wrong = computed another_privacy 9 (omega arith) refl refl

pub small_event_wrong : IsFirstWrong IsFileWords small_event 6
small_event_wrong = computed small_event 6 (omega arith) refl refl

pub reserved_name_wrong : IsFirstWrong IsFileWords reserved_name 6
reserved_name_wrong = computed reserved_name 6 (omega arith) refl refl

pub three_terms_wrong : IsFirstWrong IsFileWords three_terms 10
three_terms_wrong = computed three_terms 10 (omega arith) refl refl

pub persistent_act_wrong : IsFirstWrong IsFileWords persistent_act 8
persistent_act_wrong = computed persistent_act 8 (omega arith) refl refl

pub signed_entry_wrong : IsFirstWrong IsFileWords signed_entry 8
signed_entry_wrong = computed signed_entry 8 (omega arith) refl refl

pub one_inserted_wrong : IsFirstWrong IsFileWords one_inserted 7
one_inserted_wrong = computed one_inserted 7 (omega arith) refl refl

pub one_part_wrong : IsFirstWrong IsFileWords one_part 9
one_part_wrong = computed one_part 9 (omega arith) refl refl

pub behind_nil_wrong : IsFirstWrong IsFileWords behind_nil 6
behind_nil_wrong = computed behind_nil 6 (omega arith) refl refl

pub another_attribute_wrong : IsFirstWrong IsFileWords another_attribute 6
another_attribute_wrong = computed another_attribute 6 (omega arith) refl refl

pub two_times_wrong : IsFirstWrong IsFileWords two_times 10
two_times_wrong = computed two_times 10 (omega arith) refl refl

pub no_time_wrong : IsFirstWrong IsFileWords no_time 10
no_time_wrong = computed no_time 10 (omega arith) refl refl

pub no_binders_wrong : IsFirstWrong IsFileWords no_binders 8
no_binders_wrong = computed no_binders 8 (omega arith) refl refl

pub arguments_file : IsFileWords with_arguments
arguments_file = done with_arguments refl refl

pub one_else_file : IsFileWords one_else
one_else_file = done one_else refl refl

not_at : (ws : List Word) (j k : ℕ) → (j ≡ k → ⊥) → IsFirstWrong IsFileWords ws j → IsFirstWrong IsFileWords ws k → ⊥
not_at ws j k never a b = never (one_wrong IsFileWords ws j k a b)

pub not_the_parenthesis : IsFirstWrong IsFileWords unclosed 5 → ⊥
not_the_parenthesis h = not_at unclosed 7 5 (λ e. absurd (omega (arith, e))) unclosed_wrong h

pub not_behind_the_comma : IsFirstWrong IsFileWords with_comma 10 → ⊥
not_behind_the_comma h = not_at with_comma 9 10 (λ e. absurd (omega (arith, e))) comma_wrong h

pub not_the_first_else : IsFirstWrong IsFileWords two_elses 11 → ⊥
not_the_first_else h = not_at two_elses 13 11 (λ e. absurd (omega (arith, e))) else_wrong h

pub not_the_first_parenthesis : IsFirstWrong IsFileWords name_apart 5 → ⊥
not_the_first_parenthesis h = not_at name_apart 8 5 (λ e. absurd (omega (arith, e))) name_apart_wrong h

pub no_word_wrong : (k : ℕ) → IsFirstWrong IsFileWords one_else k → ⊥
no_word_wrong k h = h.isnt one_else_file

pub not_behind_the_end : IsFirstWrong IsFileWords endless 7 → ⊥
not_behind_the_end h = let le = h.inside in absurd (omega (arith, le))
