-- A test that names pass exactly where runs can spell them; those of a file that can be printed pass it, and those of lines that can be
-- written.
use Rattle.std.proofs.Common.{◌≡◌, ◌^◌, ℕ, List, [], ◌∷◌, length, Bool, true, false, ◌&&◌, cond, Some, map, ltb, leb, refl, subst, arith}
use Rattle.std.specs.Prelude.{All, option_map}
use Rattle.std.specs.List.{list_all}
use Rattle.std.specs.Str.{bytes_eq}
use Rattle.std.proofs.lemmas.Bool.{leb-true, le-leb, ltb-true, lt-ltb, and_parts, and_from}
use Rattle.std.proofs.lemmas.List.Elements.{All-head, All-tail}
use Rattle.std.proofs.lemmas.Slice.Eq.{bytes_eq-Decides}
use Rattle.sap_text.specs.Tokens.{is_content}
use Rattle.sap_terms.specs.Ground.{IsGround, AreGround}
use Rattle.sap_terms.specs.Message.{IsOver, AreOver}
use Rattle.sap_terms.specs.Signature.{Sig, arity_of, find_symbol}
use Rattle.sap_terms.specs.Tree.{Tree, variable, public, fresh, apply, Trees, trees_of}
use Rattle.sap_terms.specs.Tree as trees
use Rattle.sap_terms.specs.View.{tree}
use Rattle.sap_terms.specs.declared.binding.Binding.{Binding}
use Rattle.sap_terms.specs.declared.fact.Fact.{Fact}
use Rattle.sap_terms.specs.declared.limits.TheConstants.{MOST_FILE_NAME_BYTES}
use Rattle.sap_terms.specs.declared.signature.Symbol.{Symbol}
use Rattle.sap_grammar.specs.Printable.{HasNames, HaveNames, IsPrintableFact}
use Rattle.sap_process.specs.Action as action
use Rattle.sap_process.specs.Action.{Action}
use Rattle.sap_process.specs.Proc as whole
use Rattle.sap_process.specs.Proc.{Proc}
use Rattle.sap_read.specs.Occurring.{Any, NamesAre, AllNamesAre, FactsNamesAre, ActionNamesAre, ProcessNamesAre}
use Rattle.sap_read.specs.declared.limits.TheConstants.{MOST_NEW_NAME_BYTES}
use Rattle.sap_read.specs.Printable.{IsDeclarable, IsPrintableAct, IsPrintableAction, IsPrintableProcess}
use Rattle.sap_runs.specs.declared.process_step.PStep.{PStep}
use Rattle.sap_runs.specs.declared.process_step.PStep.TheVariants as step
use Rattle.sap_run_lines.specs.RunTerms.{IsNumber, IsRunName, IsRunContent}
use Rattle.sap_run_lines.specs.Spellable.{IsWritable, AreWritable, AreWritableWords, IsWritableProcess}
use Rattle.sap_run_lines.specs.StepLines.{use_words, bound_word}
use Rattle.sap_run_texts.specs.RunPrinted.{Each}
use Rattle.sap_lines.specs.NamesPass.{NamesPass, AllNamesPass, FactsPass, ActionPasses, ProcessPasses, BindingsPass, LinePasses, LinesPass}

-- the name can be spelled in a run
abbrev pub spellable : Tree → Bool
spellable (variable v) = true
spellable (public a) = list_all is_content a && leb (length a) MOST_FILE_NAME_BYTES
spellable (fresh n) = ltb n (2 ^ 64)
spellable (apply f ts) = true

pub content_passes : (a : List ℕ) → IsRunContent a → spellable (public a) ≡ true
content_passes a h = and_from (list_all is_content a) (leb (length a) MOST_FILE_NAME_BYTES) h.is (le-leb (length a) MOST_FILE_NAME_BYTES h.short)

pub passing_content : (a : List ℕ) → spellable (public a) ≡ true → IsRunContent a
passing_content a h =
    let parts = and_parts (list_all is_content a) (leb (length a) MOST_FILE_NAME_BYTES) h in
    record { is = parts.0; short = leb-true (length a) MOST_FILE_NAME_BYTES parts.1 }

number_passes : (n : ℕ) → IsNumber n → spellable (fresh n) ≡ true
number_passes n h = lt-ltb n (2 ^ 64) h

-- in what can be printed, whose public names are short

abbrev pub Named : Tree → Type 0
Named = NamesAre Any IsRunContent

mutual
  named_passes : (t : Tree) → HasNames MOST_NEW_NAME_BYTES t → Named t → NamesPass spellable t
  named_passes (variable v) h k = tt
  named_passes (public a) h k = content_passes a k
  named_passes (fresh n) h k = absurd h
  named_passes (apply f ts) h k = all_named_pass ts h.1 k

  all_named_pass : (ts : Trees) → HaveNames MOST_NEW_NAME_BYTES ts → AllNamesAre Any IsRunContent ts → AllNamesPass spellable ts
  all_named_pass trees.none h k = tt
  all_named_pass (trees.more t ts) h k = (named_passes t h.0 k.0, all_named_pass ts h.1 k.1)

module _ (g : Sig) where
  facts_pass : (fs : List Fact) → All (IsPrintableFact MOST_NEW_NAME_BYTES g) fs → FactsNamesAre Any IsRunContent fs → FactsPass spellable fs
  facts_pass [] h k = tt
  facts_pass (f ∷ fs) h k = (
    all_named_pass (trees_of f.args) (All-head (IsPrintableFact MOST_NEW_NAME_BYTES g) f fs h).names.1 k.0,
    facts_pass fs (All-tail (IsPrintableFact MOST_NEW_NAME_BYTES g) f fs h) k.1,
  )

  acts_pass : (fs : List Fact) → All (IsPrintableAct MOST_NEW_NAME_BYTES g) fs → FactsNamesAre Any IsRunContent fs → FactsPass spellable fs
  acts_pass [] h k = tt
  acts_pass (f ∷ fs) h k = (
    all_named_pass (trees_of f.args) (All-head (IsPrintableAct MOST_NEW_NAME_BYTES g) f fs h).printable.names.1 k.0,
    acts_pass fs (All-tail (IsPrintableAct MOST_NEW_NAME_BYTES g) f fs h) k.1,
  )

  action_passes : (a : Action) → IsPrintableAction MOST_NEW_NAME_BYTES g a → ActionNamesAre Any IsRunContent a → ActionPasses spellable a
  action_passes (action.new x) h k = tt
  action_passes (action.out t) h k = named_passes t h.names k
  action_passes (action.send t u) h k = (named_passes t h.0.names k.0, named_passes u h.1.names k.1)
  action_passes (action.input t) h k = named_passes t h.names k
  action_passes (action.receive t u) h k = (named_passes t h.0.names k.0, named_passes u h.1.names k.1)
  action_passes (action.event f) h k = all_named_pass (trees_of f.args) h.printable.names.1 k
  action_passes (action.insert t u) h k = (named_passes t h.0.names k.0, named_passes u h.1.names k.1)
  action_passes (action.delete t) h k = named_passes t h.names k
  action_passes (action.lock t l) h k = named_passes t h.names k
  action_passes (action.unlock t l) h k = named_passes t h.names k
  action_passes (action.embedded l e r) h k = (facts_pass l h.0 k.0, acts_pass e h.1 k.1, facts_pass r h.2 k.2)

  pub process_passes : (p : Proc) → IsPrintableProcess MOST_NEW_NAME_BYTES g p → ProcessNamesAre Any IsRunContent p → ProcessPasses spellable p
  process_passes whole.nil h k = tt
  process_passes (whole.parallel p q) h k = (process_passes p h.0 k.0, process_passes q h.1 k.1)
  process_passes (whole.replicated p) h k = process_passes p h k
  process_passes (whole.act a p) h k = (action_passes a h.0 k.0, process_passes p h.1 k.1)
  process_passes (whole.test t u p q) h k = (named_passes t h.0.names k.0, named_passes u h.1.names k.1, process_passes p h.2 k.2, process_passes q h.3 k.3)
  process_passes (whole.lookup t x p q) h k = (named_passes t h.0.names k.0, process_passes p h.2 k.2, process_passes q h.3 k.3)

-- in lines that can be written

mutual
  pub written_passes : (t : Tree) → IsWritable t → NamesPass spellable t
  written_passes (variable v) h = tt
  written_passes (public a) h = content_passes a h
  written_passes (fresh n) h = number_passes n h
  written_passes (apply f ts) h = all_written_pass ts h.1

  all_written_pass : (ts : Trees) → AreWritable ts → AllNamesPass spellable ts
  all_written_pass trees.none h = tt
  all_written_pass (trees.more t ts) h = (written_passes t h.0, all_written_pass ts h.1)

bound_pass : (b : List Binding) → AreWritableWords (map bound_word b) → BindingsPass spellable b
bound_pass [] h = tt
bound_pass (x ∷ b) h = (written_passes (tree x.term) h.0.1, bound_pass b h.1)

used_pass : (facts : List ℕ) (b : List Binding) → AreWritableWords (use_words facts b) → BindingsPass spellable b
used_pass [] [] h = tt
used_pass [] (x ∷ b) h = bound_pass (x ∷ b) h.1
used_pass (k ∷ facts) b h = used_pass facts b h.1

pub line_passes : (s : PStep) → IsWritableProcess s → LinePasses spellable s
line_passes (step.New t n) h = number_passes n h.words.1.1.0
line_passes (step.Name n) h = number_passes n h.words.1.0
line_passes (step.Public a) h = content_passes a h.words.1.0
line_passes (step.Embedded t facts b) h = used_pass facts b h.words.1.1
line_passes (step.Nil t) h = tt
line_passes (step.Par t) h = tt
line_passes (step.Rep t) h = tt
line_passes (step.Out t) h = tt
line_passes (step.Send t k) h = tt
line_passes (step.In t k) h = tt
line_passes (step.Sync s r) h = tt
line_passes (step.Then t) h = tt
line_passes (step.Else t) h = tt
line_passes (step.Event t) h = tt
line_passes (step.Insert t) h = tt
line_passes (step.Delete t) h = tt
line_passes (step.Found t) h = tt
line_passes (step.Missing t) h = tt
line_passes (step.Lock t) h = tt
line_passes (step.Unlock t) h = tt
line_passes (step.Apply f entries) h = tt
line_passes (step.Know k) h = tt

pub lines_pass : (ss : List PStep) → Each IsWritableProcess ss → LinesPass spellable ss
lines_pass [] h = tt
lines_pass (s ∷ ss) h = (line_passes s h.0, lines_pass ss h.1)

-- terms of such names over a signature whose symbols can be declared can be written

found_symbol : (ss : List Symbol) (n : List ℕ) (k : ℕ) → All (IsDeclarable MOST_FILE_NAME_BYTES) ss → option_map (λ (s : Symbol). s.arity) (find_symbol ss n) ≡ Some k → IsRunName n
found_symbol [] n k h e = absurd (cc)
found_symbol (s ∷ ss) n k h e = at (bytes_eq s.name n) refl e (found_symbol ss n k (All-tail (IsDeclarable MOST_FILE_NAME_BYTES) s ss h))
  where
    own : s.name ≡ n → IsRunName n
    own same =
        let name = (All-head (IsDeclarable MOST_FILE_NAME_BYTES) s ss h).name in
        subst IsRunName same (record { is = name.is; no_grammar_word = name.no_grammar_word; short = let few = name.short in omega arith })

    at : (b : Bool) → bytes_eq s.name n ≡ b → option_map (λ (x : Symbol). x.arity) (cond b (Some s) (find_symbol ss n)) ≡ Some k
        → (option_map (λ (x : Symbol). x.arity) (find_symbol ss n) ≡ Some k → IsRunName n) → IsRunName n
    at true is got rest = own ((bytes_eq-Decides s.name n).0 is)
    at false is got rest = rest got

module _ (g : Sig) (declarable : All (IsDeclarable MOST_FILE_NAME_BYTES) g.symbols) where
  pub symbol_written : (f : List ℕ) (k : ℕ) → arity_of g f ≡ Some k → IsRunName f
  symbol_written f k e = found_symbol g.symbols f k declarable e

  mutual
    pub term_written : (t : Tree) → IsGround t → IsOver g t → NamesPass spellable t → IsWritable t
    term_written (variable v) ground over h = absurd ground
    term_written (public a) ground over h = passing_content a h
    term_written (fresh n) ground over h = ltb-true n (2 ^ 64) h
    term_written (apply f ts) ground over h = ((λ other. symbol_written f _ over.0), terms_written ts ground over.1 h)

    terms_written : (ts : Trees) → AreGround ts → AreOver g ts → AllNamesPass spellable ts → AreWritable ts
    terms_written trees.none ground over h = tt
    terms_written (trees.more t ts) ground over h = (term_written t ground.0 over.0 h.0, terms_written ts ground.1 over.1 h.1)
