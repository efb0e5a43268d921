-- The tables behind a step of the adversary.
use Rattle.std.proofs.Common.{append-nil, ◌≡◌, ℕ, ◌+◌, List, [], ◌∷◌, ◌++◌, Option, Some, refl, sym, ap, ◌∙◌, arith, slice_get, length}
use Rattle.sap_terms.specs.AdversaryFacts.{fr_fact, in_fact, out_fact}
use Rattle.sap_terms.specs.Piles.{Pile, Takes, adds}
use Rattle.sap_terms.specs.Signature.{Sig}
use Rattle.sap_terms.specs.Tree.{Tree, fresh}
use Rattle.sap_process.specs.Configuration.{Config}
use Rattle.sap_rule.specs.RuleSteps as state
use Rattle.sap_rule.specs.RuleSteps.{RuleState, gains, leaves}
use Rattle.sap_translate.specs.relation.Agents.{Agent}
use Rattle.std.proofs.lemmas.List.{length-append}
use Rattle.sap_back.proofs.Changes.{Comes}
use Rattle.sap_translate.proofs.Shared.Lookups.{get_last}
use Rattle.sap_back.proofs.Effects.{Gets, Keeps}
use Rattle.sap_back.proofs.TabledThreads.{Kept, Longer, entries_stay, more_longer, once_none, once_one, pending_stays, plain, push_entries, reserved_more, reserved_none, same_longer, stand_old}
use Rattle.sap_back.proofs.Takings.{first_there, takes_kept, takes_length}
use Rattle.sap_process_lines.specs.Tables.{ProcessTables, come, with_known, enters, waiting}
use Rattle.sap_back.specs.Tables.{AreProcessTables}

module _ (g : Sig) (agents : List (Option Agent)) (pending : Option Tree) (c : Config) (es : List Tree) (s : RuleState) (tables : ProcessTables) (old : AreProcessTables agents pending c es s tables) (z : RuleState) (d : Config) (fs : List Tree) where
  -- the rules know one term more, which is this entry
  gained : (rest : Pile) (x : Tree) (e known : ℕ) → Kept g agents pending c es s tables old rest → length rest ≡ length s.facts → z ≡ gains (leaves s rest) x → d.facts ≡ c.facts → Longer g agents pending c es s tables old fs → slice_get fs e ≡ Some x → known ≡ length fs
      → AreProcessTables agents pending d fs z (record tables { entries = tables.entries ++ e ∷ []; known = known })
  gained rest x e known kept size is same longer entry all =
      let terms : z.known ≡ s.known ++ x ∷ [] = ap (λ (y : RuleState). y.known) is in
      let j = length-append tables.entries (e ∷ []) in
      let k = length-append s.known (x ∷ []) in
      let l = old.all_entries in
      let m : length z.known ≡ length (s.known ++ x ∷ []) = ap (λ (xs : List Tree). length xs) terms in
      plain g agents pending c es s tables old agents pending d fs z (record tables { entries = tables.entries ++ e ∷ []; known = known }) rest [] []
      (ap (λ (y : RuleState). y.facts) is ∙ sym (append-nil rest)) (sym (append-nil tables.facts)) kept size tt once_none reserved_none (stand_old g agents pending c es s tables old rest kept) old.unborn same refl longer
      (λ i a n. push_entries tables.entries s.known fs e x old.all_entries (entries_stay g agents pending c es s tables old fs longer) entry i a n ∙ ap (λ xs. slice_get xs i) (sym terms))
      (omega arith) (pending_stays es fs longer pending tables.pending old.waits) old.threads all

  -- it learns what was sent
  pub learns : (k e : ℕ) (x : Tree) (rest : Pile) → slice_get tables.facts k ≡ Some e → Takes s.facts (k ∷ []) (out_fact x ∷ []) rest → z ≡ gains (leaves s rest) x → Keeps c es d fs → AreProcessTables agents pending d fs z (enters tables e)
  learns k e x rest number takes is keeps =
      let longer = same_longer es fs keeps.entries in
      gained rest x e tables.known (takes_kept takes) (takes_length takes) is keeps.facts longer (longer e x (old.sent k e x (first_there takes) number))
      (old.known ∙ ap (λ (xs : List Tree). length xs) (sym keeps.entries))

  -- it writes a new entry
  gets : (rest : Pile) (x : Tree) → Kept g agents pending c es s tables old rest → length rest ≡ length s.facts → z ≡ gains (leaves s rest) x → Gets c es d fs x → AreProcessTables agents pending d fs z (with_known (enters tables tables.known))
  gets rest x kept size is more =
      let l = length-append es (x ∷ []) in
      let m : length fs ≡ length (es ++ x ∷ []) = ap (λ (xs : List Tree). length xs) more.entries in
      let n = old.known in
      gained rest x tables.known (tables.known + 1) kept size is more.facts (more_longer es fs x more.entries) (ap (λ i. slice_get fs i) old.known ∙ ap (λ xs. slice_get xs (length es)) more.entries ∙ get_last es x) (omega arith)

  -- which is a name
  pub owns : (k n : ℕ) (rest : Pile) → Takes s.facts (k ∷ []) (fr_fact n ∷ []) rest → z ≡ gains (leaves s rest) (fresh n) → Gets c es d fs (fresh n) → AreProcessTables agents pending d fs z (with_known (enters tables tables.known))
  owns k n rest takes is more = gets rest (fresh n) (takes_kept takes) (takes_length takes) is more

  -- or a term that it makes
  pub writes : (x : Tree) → z ≡ gains s x → Gets c es d fs x → AreProcessTables agents pending d fs z (with_known (enters tables tables.known))
  writes x is more = gets s.facts x (λ k f e. e) refl is more

  -- Fr is made of a name
  pub makes : (n : ℕ) → z ≡ state.makes s n → Keeps c es d fs → AreProcessTables agents pending d fs z (come tables (n ∷ []))
  makes n is keeps =
      let longer = same_longer es fs keeps.entries in
      let terms : z.known ≡ s.known = ap (λ (y : RuleState). y.known) is in
      plain g agents pending c es s tables old agents pending d fs z (come tables (n ∷ [])) s.facts (fr_fact n ∷ []) (n ∷ []) (ap (λ (y : RuleState). y.facts) is) refl (λ k f e. e) refl (Comes.made n, tt) (once_one (fr_fact n)) (reserved_more (fr_fact n) [] refl reserved_none)
      (stand_old g agents pending c es s tables old s.facts (λ k f e. e)) old.unborn keeps.facts refl longer (λ k e i. entries_stay g agents pending c es s tables old fs longer k e i ∙ ap (λ xs. slice_get xs k) (sym terms))
      (old.all_entries ∙ ap (λ (xs : List Tree). length xs) (sym terms)) (pending_stays es fs longer pending tables.pending old.waits) old.threads (old.known ∙ ap (λ (xs : List Tree). length xs) (sym keeps.entries))

  -- it gives an entry, which is pending
  pub knows : (k e : ℕ) (x : Tree) → slice_get s.known k ≡ Some x → slice_get tables.entries k ≡ Some e → z ≡ leaves s (adds s.facts (in_fact x ∷ [])) → Keeps c es d fs → AreProcessTables agents (Some x) d fs z (waiting (come tables (0 ∷ [])) (Some e))
  knows k e x entry number is keeps =
      let longer = same_longer es fs keeps.entries in
      let terms : z.known ≡ s.known = ap (λ (y : RuleState). y.known) is in
      plain g agents pending c es s tables old agents (Some x) d fs z (waiting (come tables (0 ∷ [])) (Some e)) s.facts (in_fact x ∷ []) (0 ∷ []) (ap (λ (y : RuleState). y.facts) is) refl (λ k f e. e) refl (Comes.given x 0, tt) (once_one (in_fact x)) (reserved_more (in_fact x) [] refl reserved_none)
      (stand_old g agents pending c es s tables old s.facts (λ k f e. e)) old.unborn keeps.facts refl longer (λ i a n. entries_stay g agents pending c es s tables old fs longer i a n ∙ ap (λ xs. slice_get xs i) (sym terms))
      (old.all_entries ∙ ap (λ (xs : List Tree). length xs) (sym terms)) (e, refl, longer e x (old.entries k e number ∙ entry)) old.threads (old.known ∙ ap (λ (xs : List Tree). length xs) (sym keeps.entries))
