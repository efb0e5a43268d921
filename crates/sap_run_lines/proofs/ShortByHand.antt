-- Lines of short runs by hand.
use Rattle.std.proofs.Common.{◌≡◌, ℕ, List, Option, Some, None, refl, sym, subst, ◌∙◌}
use Rattle.std.specs.Prelude.{codes}
use Rattle.sap_terms.specs.View.{term}
use Rattle.sap_runs.specs.Examples.{k, hashed}
use Rattle.sap_runs.specs.declared.process_step.PStep.TheVariants as step
use Rattle.sap_runs.specs.declared.short_step.SStep.{SStep}
use Rattle.sap_runs.specs.declared.short_step.SStep.TheVariants as short
use Rattle.sap_run_lines.specs.StepLines.{IsLineRead}
use Rattle.sap_run_lines.specs.ShortLines.{IsShortStepLine}
use Rattle.sap_run_lines.specs.code.Taking.{after, given, identifier_at, name_at, number_at, with_digits, content_at}
use Rattle.sap_run_lines.specs.code.TermTaking.{term as term_of, rest, terms, small_term}
use Rattle.sap_run_lines.specs.code.WordTaking.{word_at, words_in, on_words}
use Rattle.sap_run_lines.specs.code.ShortTaking.{short_line_of}
use Rattle.sap_run_lines.proofs.ShortLines.{short_taken, short_read}

-- what is taken is the line's step, and where nothing is it is none's
is_line : (s : SStep) (z : List ℕ) → short_line_of z ≡ Some s → IsShortStepLine s z
is_line s z e = subst (IsLineRead IsShortStepLine z) e (short_read z)

no_line : (z : List ℕ) → short_line_of z ≡ None → (s : SStep) → ¬ IsShortStepLine s z
no_line z e s h = let taken : ◌≡◌ {A = Option SStep} None (Some s) = sym e ∙ short_taken s z h in absurd (cc)

pub input : IsShortStepLine (short.In 0 (term (hashed 1))) (codes "in 0 h('k')")
unfolding after given identifier_at name_at number_at with_digits content_at term_of rest terms small_term
input = is_line (short.In 0 (term (hashed 1))) (codes "in 0 h('k')") refl

pub sending : IsShortStepLine (short.Send 3) (codes "send 3")
unfolding after given identifier_at number_at with_digits word_at words_in on_words
sending = is_line (short.Send 3) (codes "send 3") refl

pub knowing : IsShortStepLine (short.Know (term k)) (codes "know 'k'")
unfolding after given identifier_at content_at term_of rest terms small_term
knowing = is_line (short.Know (term k)) (codes "know 'k'") refl

pub output : IsShortStepLine (short.Act (step.Out 0)) (codes "out 0")
unfolding after given identifier_at number_at with_digits word_at words_in on_words
output = is_line (short.Act (step.Out 0)) (codes "out 0") refl

pub no_input : (s : SStep) → ¬ IsShortStepLine s (codes "in 0 1")
unfolding after given identifier_at name_at number_at with_digits term_of rest terms small_term
no_input = no_line (codes "in 0 1") refl

pub no_sending : (s : SStep) → ¬ IsShortStepLine s (codes "send 0 1")
unfolding after given identifier_at number_at with_digits word_at words_in on_words
no_sending = no_line (codes "send 0 1") refl

pub no_knowing : (s : SStep) → ¬ IsShortStepLine s (codes "know 0")
unfolding after given identifier_at name_at term_of rest terms small_term
no_knowing = no_line (codes "know 0") refl

pub no_public : (s : SStep) → ¬ IsShortStepLine s (codes "pub 'k'")
unfolding after identifier_at
no_public = no_line (codes "pub 'k'") refl

pub no_symbol : (s : SStep) → ¬ IsShortStepLine s (codes "app h 0")
unfolding after identifier_at
no_symbol = no_line (codes "app h 0") refl

pub no_blank : (s : SStep) → ¬ IsShortStepLine s (codes "know  'k'")
unfolding after given identifier_at name_at term_of rest terms small_term
no_blank = no_line (codes "know  'k'") refl
