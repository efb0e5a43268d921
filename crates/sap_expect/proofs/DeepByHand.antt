-- Words at the limits of levels, computed.
use Rattle.std.proofs.Common.{◌≡◌, ℕ, Bool, true, false, List, [], ◌∷◌, ◌++◌, Option, Some, None, refl}
use Rattle.std.specs.Prelude.{codes}
use Rattle.std.specs.List.{list_all}
use Rattle.sap_grammar.specs.Words.{Word, mark, name}
use Rattle.sap_expect.specs.declared.nested.Nested.{Nested}
use Rattle.sap_expect.specs.declared.nested.Nested.TheVariants.{Term as ATerm, Process as AProcess, Formula as AFormula}
use Rattle.sap_expect.specs.declared.wanted.Part.TheVariants.{Sequence, Term}
use Rattle.sap_expect.specs.FileTable.{Open, TakesBy, all_but, file, takes_other, takes_row}
use Rattle.sap_expect.specs.FileWords.{IsFileWords}
use Rattle.sap_expect.specs.FirstWrong.{GoOn}
use Rattle.sap_expect.specs.KindExamples.{deep_formula, deep_process, deep_term}
use Rattle.sap_expect.specs.Levels.{AreTaken, IsTooDeep}
use Rattle.sap_expect.proofs.Ends.{all_lettered, is_lettered}
use Rattle.sap_expect.proofs.LevelsByHand.{all_stops, all_taken, stops}
use Rattle.sap_expect.proofs.Reaching.{State, reach}
use Rattle.sap_expect.proofs.Taken.{all_more, file_goes, goes_file, last_taken, one_nested, taken_more}
use Rattle.sap_expect.proofs.Takes.{part_no}

abbrev start : State
start = (0, file)

abbrev reached_or : Option State → State
reached_or None = start
reached_or (Some s) = s

-- the state behind the words
abbrev state : List Word → State
state ws = reached_or (reach start ws)

abbrev is_there : Option State → Bool
is_there None = false
is_there (Some s) = true

state_taken : (ws : List Word) → is_there (reach start ws) ≡ true → AreTaken 0 file ws (state ws).0 (state ws).1
state_taken ws e = by (reach start ws) refl e
  where
    by : (o : Option State) → reach start ws ≡ o → is_there o ≡ true → AreTaken 0 file ws (reached_or o).0 (reached_or o).1
    by None f g = absurd (cc (g))
    by (Some s) f g = all_taken start ws s f

-- no file goes on with words that stop
no_file : (ws : List Word) → stops start ws ≡ true → GoOn IsFileWords ws → ⊥
no_file ws e h =
    let g = file_goes ws h in
    all_stops start ws e g.0 g.1 g.2

-- the last of these words is too deep
last_deep : {k : ℕ} {next : List Open} (c : Nested) (ws : List Word) (w : Word) → is_there (reach start ws) ≡ true → stops start (ws ++ w ∷ []) ≡ true
    → TakesBy (all_but c) (state ws).0 (state ws).1 w k next → IsTooDeep c (ws ++ w ∷ [])
last_deep {k = k} {next = next} c ws w e f t = record { isnt = no_file (ws ++ w ∷ []) f; alone = (k, next, taken_more (all_more (all_but c) (state_taken ws e)) t) }

pub deep_term_100 : IsTooDeep ATerm (deep_term 99 ++ mark (codes "<") ∷ [])
deep_term_100 = last_deep ATerm (deep_term 99) (mark (codes "<")) refl refl (takes_row refl refl)

pub deep_arguments : IsTooDeep ATerm (deep_term 99 ++ name (codes "f") ∷ mark (codes "(") ∷ name (codes "x") ∷ [])
deep_arguments = last_deep ATerm (deep_term 99 ++ name (codes "f") ∷ mark (codes "(") ∷ []) (name (codes "x")) refl refl (takes_other refl refl refl (takes_row refl refl))

pub deep_process_300 : IsTooDeep AProcess (deep_process 299 ++ mark (codes "!") ∷ [])
deep_process_300 = last_deep AProcess (deep_process 299) (mark (codes "!")) refl refl (takes_row refl refl)

pub deep_formula_100 : IsTooDeep AFormula (deep_formula 99 ++ mark (codes "not") ∷ [])
deep_formula_100 = last_deep AFormula (deep_formula 99) (mark (codes "not")) refl refl (takes_row refl refl)

-- what isn't so
not_another : (c d : Nested) (ws : List Word) → list_all is_lettered ws ≡ true → IsTooDeep c ws → (c ≡ d → ⊥) → IsTooDeep d ws → ⊥
not_another c d ws e h never g = never (one_nested c d ws (all_lettered ws e) h g)

pub term_not_process : IsTooDeep AProcess (deep_term 99 ++ mark (codes "<") ∷ []) → ⊥
term_not_process = not_another ATerm AProcess (deep_term 99 ++ mark (codes "<") ∷ []) refl deep_term_100 (λ e. absurd (cc (e)))

pub process_not_term : IsTooDeep ATerm (deep_process 299 ++ mark (codes "!") ∷ []) → ⊥
process_not_term = not_another AProcess ATerm (deep_process 299 ++ mark (codes "!") ∷ []) refl deep_process_300 (λ e. absurd (cc (e)))

pub formula_not_term : IsTooDeep ATerm (deep_formula 99 ++ mark (codes "not") ∷ []) → ⊥
formula_not_term = not_another AFormula ATerm (deep_formula 99 ++ mark (codes "not") ∷ []) refl deep_formula_100 (λ e. absurd (cc (e)))

-- where these levels don't count either, the last word isn't taken
not_last : (c : Nested) (ws : List Word) (w : Word) → is_there (reach start ws) ≡ true
    → ((k : ℕ) (next : List Open) → TakesBy (all_but c) (state ws).0 (state ws).1 w k next → ⊥) → IsTooDeep c (ws ++ w ∷ []) → ⊥
not_last c ws w e never h = never h.alone.0 h.alone.1 (last_taken ws (state_taken ws e) h.alone.2)

pub not_replicated : IsTooDeep ATerm (deep_term 99 ++ mark (codes "!") ∷ []) → ⊥
not_replicated = not_last ATerm (deep_term 99) (mark (codes "!")) refl (λ k next t. part_no _ Term _ _ _ (mark (codes "!")) k next refl refl t)

pub not_end : IsTooDeep AProcess (deep_process 299 ++ mark (codes "end") ∷ []) → ⊥
not_end = not_last AProcess (deep_process 299) (mark (codes "end")) refl (λ k next t. part_no _ Sequence _ _ _ (mark (codes "end")) k next refl refl t)

pub not_nested_98 : IsTooDeep ATerm (deep_term 98 ++ mark (codes "<") ∷ []) → ⊥
not_nested_98 h =
    let ws = deep_term 98 ++ mark (codes "<") ∷ [] in
    h.isnt (goes_file ws (all_lettered ws refl) ((state ws).0, (state ws).1, state_taken ws refl))
