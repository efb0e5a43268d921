-- One line that is told, from its parts.
use Rattle.std.proofs.Common.{◌≡◌, ◌+◌, ℕ, codes, decimal, List, ◌++◌, length, sym, ap, ◌∙◌, append_assoc, true, Result, Ok, Err, OnOk}
use Rattle.std.specs.Prelude.{slice_get}
use Rattle.std.proofs.lemmas.List.{length-map}
use Rattle.sap_called.specs.Names.{Draw}
use Rattle.sap_calc.specs.Running.{Running, configuration, IsDone}
use Rattle.sap_deduce.specs.Entries.{Entry, terms_of}
use Rattle.sap_runs.specs.declared.process_step.PStep.{PStep}
use Rattle.sap_terms.specs.declared.fact.Fact.{Fact}
use Rattle.sap_teller.specs.Telling.{IsDoneAndTold, IsToldApart, IsToldOn}
use Rattle.sap_tell.specs.Draws.{draws_after}
use Rattle.sap_tell.specs.ThreadPaths.{paths_after}
use Rattle.sap_tell.specs.ToldText.{outcomes_text, seen_texts}
use Rattle.sap_teller.specs.code.Doings.{action_of, outcomes_of}
use Rattle.sap_teller.specs.code.Heads.{IsBefore, Does, added_by, form_at}
use Rattle.sap_teller.specs.code.Lines.{apart_text, body_text, numbered_text}
use Rattle.sap_teller.specs.code.Outcomes.{outcomes_from, shown_texts}
use Rattle.sap_teller.specs.declared.before.Before.{Before}
use Rattle.sap_teller.specs.declared.doing.Doing.{Doing}
use Rattle.sap_teller.specs.declared.telling.Along.{Along}
use Rattle.sap_teller.proofs.Headed.{facts_grow}
use Rattle.sap_teller.proofs.Pieces.{outcomes_all, line_entries, seen_is}

four : (a b c d e : List ℕ) → (a ++ (b ++ (c ++ d))) ++ e ≡ a ++ (b ++ (c ++ (d ++ e)))
four a b c d e = append_assoc a (b ++ (c ++ d)) e ∙ ap (λ z. a ++ z) (append_assoc b (c ++ d) e ∙ ap (λ z. b ++ z) (append_assoc c d e))

module _ (r z : Running) (kept : Before) (step : PStep) (label : List Fact) (x : Doing) (b : IsBefore r step kept) (h : IsDone r z step label) (does : Does r z step x) (ds : List Draw) where
  entries_count : kept.entries ≡ length (terms_of r.known)
  entries_count = b.entries ∙ sym (length-map r.known (λ (e : Entry). e.term))

  seen_here : shown_texts ds label kept.entries (slice_get (terms_of z.known) kept.entries) ≡ seen_texts ds label (terms_of r.known) (terms_of z.known)
  seen_here = (λ i. shown_texts ds label (entries_count i) (slice_get (terms_of z.known) (entries_count i))) ∙ sym (seen_is ds label (terms_of r.known) (terms_of z.known) (line_entries h.line))

  body_is : body_text ds label kept.entries (slice_get (terms_of z.known) kept.entries) x ≡ action_of ds label x ++ outcomes_text (seen_texts ds label (terms_of r.known) (terms_of z.known) ++ outcomes_of ds x)
  body_is = ap (λ os. action_of ds label x ++ outcomes_from true (os ++ outcomes_of ds x)) seen_here ∙ ap (λ t. action_of ds label x ++ t) (sym (outcomes_all (seen_texts ds label (terms_of r.known) (terms_of z.known) ++ outcomes_of ds x)))

  pub told_line : (number : ℕ) (who : List ℕ) → IsDoneAndTold r z number who ds step label (numbered_text number who ++ body_text ds label kept.entries (slice_get (terms_of z.known) kept.entries) x)
  told_line number who = record {
    inner = h.inner;
    line = h.line;
    sig = h.sig;
    told = record {
      doing = action_of ds label x;
      outcomes = outcomes_of ds x;
      done = does ds h.inner label h.line;
      written = four (decimal number) (codes ". ") who (codes ": ") (body_text ds label kept.entries (slice_get (terms_of z.known) kept.entries) x)
          ∙ ap (λ t. decimal number ++ (codes ". " ++ (who ++ (codes ": " ++ t)))) body_is;
    };
  }

module _ (r z : Running) (kept : Before) (step : PStep) (label : List Fact) (x : Doing) (b : IsBefore r step kept) (h : IsDone r z step label) (does : Does r z step x) where
  -- what is done and what comes of it, where these names were drawn
  abbrev body : List Draw → List ℕ
  body ds = body_text ds label kept.entries (slice_get (terms_of z.known) kept.entries) x

  pub told_on : (hs : List Draw) (a e : Along) (who before first second after : List ℕ) → first ≡ before ++ numbered_text (a.lines + 1) who → second ≡ first ++ body_text hs label kept.entries (slice_get (terms_of z.known) kept.entries) x → after ≡ second ++ codes "\n"
      → e.names ≡ hs → hs ≡ draws_after a.names (configuration r) step → e.paths ≡ paths_after a.paths step → e.lines ≡ a.lines + 1 → e.facts ≡ kept.facts + added_by step (form_at kept.head) → IsToldOn r z a e who before after step label
  told_on hs a e who before first second after p q s same drawn paths lines facts =
      let start = numbered_text (a.lines + 1) who in
      let there : second ≡ first ++ body e.names = q ∙ ap (λ ds. first ++ body ds) (sym same) in
      record {
        told = start ++ body e.names;
        done = told_line r z kept step label x b h does e.names (a.lines + 1) who;
        text = s ∙ ap (λ t. t ++ codes "\n") (there ∙ ap (λ t. t ++ body e.names) p ∙ append_assoc before start (body e.names)) ∙ append_assoc before (start ++ body e.names) (codes "\n");
        paths = paths;
        names = same ∙ drawn;
        lines = lines;
        facts = facts ∙ ap (λ n. n + added_by step (form_at kept.head)) b.facts ∙ sym (facts_grow kept.head b.head h.line);
      }

  -- the same where the line feed is missing and what it does is told apart
  pub apart_on : (hs : List Draw) (a e : Along) (who before first second apart_before apart_after : List ℕ) → first ≡ before ++ numbered_text (a.lines + 1) who → second ≡ first ++ body_text hs label kept.entries (slice_get (terms_of z.known) kept.entries) x → apart_after ≡ apart_before ++ apart_text hs label x
      → e.names ≡ hs → hs ≡ draws_after a.names (configuration r) step → e.paths ≡ paths_after a.paths step → e.lines ≡ a.lines + 1 → e.facts ≡ kept.facts + added_by step (form_at kept.head) → IsToldApart r z a e who before second apart_before apart_after step label
  unfolding told_line
  apart_on hs a e who before first second apart_before apart_after p q s same drawn paths lines facts =
      let start = numbered_text (a.lines + 1) who in
      let there : second ≡ first ++ body e.names = q ∙ ap (λ ds. first ++ body ds) (sym same) in
      record {
        told = start ++ body e.names;
        done = told_line r z kept step label x b h does e.names (a.lines + 1) who;
        text = there ∙ ap (λ t. t ++ body e.names) p ∙ append_assoc before start (body e.names);
        apart = s ∙ ap (λ ds. apart_before ++ apart_text ds label x) (sym same) ∙ ap (λ t. apart_before ++ (action_of e.names label x ++ t)) (sym (outcomes_all (outcomes_of e.names x)));
        paths = paths;
        names = same ∙ drawn;
        lines = lines;
        facts = facts ∙ ap (λ n. n + added_by step (form_at kept.head)) b.facts ∙ sym (facts_grow kept.head b.head h.line);
      }

-- what follows from four things that are so where all went well
pub on_ok_four : {V E : Type 0} (r : Result V E) (A B C D F : Type 0) → (A → B → C → D → F) → OnOk r A → OnOk r B → OnOk r C → OnOk r D → OnOk r F
on_ok_four (Ok v) A B C D F f a b c d = f a b c d
on_ok_four (Err e) A B C D F f a b c d = tt

-- and from one
pub on_ok_one : {V E : Type 0} (r : Result V E) (A B : Type 0) → (A → B) → OnOk r A → OnOk r B
on_ok_one (Ok v) A B f a = f a
on_ok_one (Err e) A B f a = tt

-- and from two
pub on_ok_two : {V E : Type 0} (r : Result V E) (A B C : Type 0) → (A → B → C) → OnOk r A → OnOk r B → OnOk r C
on_ok_two (Ok v) A B C f a b = f a b
on_ok_two (Err e) A B C f a b = tt
