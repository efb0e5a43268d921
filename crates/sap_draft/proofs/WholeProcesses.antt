-- All of some words as a process.
use Rattle.std.proofs.Common.{◌≡◌, ◌≤◌, ℕ, List, [], ◌∷◌, Some, None, inl, inr, refl, ap, subst, ◌∙◌}
use Rattle.std.specs.Prelude.{◌⊎◌}
use Rattle.sap_terms.specs.Signature.{Sig}
use Rattle.sap_grammar.specs.Words.{Word, words_of}
use Rattle.sap_grammar.specs.Reading.{Read}
use Rattle.sap_text.specs.declared.token.Token.{Token}
use Rattle.sap_macro.specs.Written.{Written}
use Rattle.sap_macro.specs.Located.{Located, without_numbers}
use Rattle.sap_draft.specs.LocatedProcesses.{par_located}
use Rattle.sap_draft.proofs.LocatedProcesses.{ParAt}
use Rattle.sap_draft.specs.ProcessGrammar.{IsPar, EndsProcess}
use Rattle.sap_draft.specs.ProcessGrammar.{IsProcess}
use Rattle.sap_draft.specs.code.ProcessReading.{Levelled, par}
use Rattle.sap_draft.proofs.Processes.{par_read, one_located}
use Rattle.sap_draft.proofs.SoundProcesses.{par_sound}
use Rattle.sap_draft.proofs.Signatures.{par_too}
use Rattle.sap_grammar.proofs.ReadingLaws.OnRead.{OnRead}
use Rattle.sap_terms.specs.declared.limits.TheConstants.{MOST_PROCESS_LEVELS}
use Rattle.sap_draft.specs.declared.limits.TheConstants.{FILE_LIMITS}
use Rattle.sap_grammar.specs.TermLaws.{AreRead, AreSpelled}

-- nothing goes on behind the last word
pub at_last : EndsProcess []
at_last = record { no_parenthesis = refl; no_semicolon = refl; no_else = refl; no_bar = refl; no_bars = refl }

module _ (read : AreRead) (spelled : AreSpelled) where
  -- what is read to the last word is spelled so, with these numbers
  whole_at : (g : Sig) (ws : List Word) (p : Located) (n : ℕ) → par g FILE_LIMITS MOST_PROCESS_LEVELS ws ≡ Some ((p, n), []) → ParAt g FILE_LIMITS p n ws [] × (n ≤ MOST_PROCESS_LEVELS)
  whole_at g ws p n e =
      subst (λ (r : Read Levelled). OnRead (λ w b. ParAt g FILE_LIMITS w.0 w.1 ws b × (w.1 ≤ MOST_PROCESS_LEVELS)) r) e (par_sound read g FILE_LIMITS MOST_PROCESS_LEVELS ws)

  -- it is a process
  pub whole_is : (g : Sig) (ws : List Word) (p : Located) (n : ℕ) → par g FILE_LIMITS MOST_PROCESS_LEVELS ws ≡ Some ((p, n), []) → IsProcess g (without_numbers p) ws
  whole_is g ws p n e = let is = whole_at g ws p n e in let at = is.0 in record { levels = n; spelled = at.spelled; few_levels = is.1 }

  -- and however it is spelled, these are its numbers
  pub whole_places : (g : Sig) (ws : List Word) (p : Located) (n : ℕ) → par g FILE_LIMITS MOST_PROCESS_LEVELS ws ≡ Some ((p, n), [])
      → (q : Written) (k : ℕ) (r : IsPar g FILE_LIMITS q k ws []) → par_located r ≡ p
  whole_places g ws p n e q k r =
      let is = whole_at g ws p n e in
      let at = is.0 in
      let same = one_located read r at.spelled at_last at_last in
      same.0 ∙ at.located

  -- words that are a process under some signature are read to the last word under each
  pub whole_read : (g h : Sig) (ws : List Word) (p : Written) → IsProcess h p ws → (q : Located) × (n : ℕ) × (par g FILE_LIMITS MOST_PROCESS_LEVELS ws ≡ Some ((q, n), []))
  whole_read g h ws p r = let too = par_too spelled g r.spelled in (par_located too.1, r.levels, par_read read too.1 MOST_PROCESS_LEVELS r.few_levels at_last)

  pub nothing_whole : (g : Sig) (ws : List Word) → par g FILE_LIMITS MOST_PROCESS_LEVELS ws ≡ None → (h : Sig) (p : Written) → IsProcess h p ws → ⊥
  nothing_whole g ws e h p r = let other = whole_read g h ws p r in let found = other.2 in absurd (cc (e, found))

  pub no_other_whole : (g : Sig) (ws b : List Word) (w : Levelled) → par g FILE_LIMITS MOST_PROCESS_LEVELS ws ≡ Some (w, b) → (b ≡ [] → ⊥) → (h : Sig) (p : Written) → IsProcess h p ws → ⊥
  no_other_whole g ws b w e more h p r =
      let other = whole_read g h ws p r in
      let found = other.2 in
      let both : ◌≡◌ {A = Levelled × List Word} (w, b) ((other.0, other.1), []) = cc (e, found) in
      more (ap (λ (y : Levelled × List Word). y.1) both)

  -- words are one or none
  pub some_whole : (g : Sig) (ws : List Word) → ((p : Written) × IsProcess g p ws) ⊎ ((p : Written) → IsProcess g p ws → ⊥)
  some_whole g ws = by (par g FILE_LIMITS MOST_PROCESS_LEVELS ws) refl
    where
      ended : (r : Levelled × List Word) → par g FILE_LIMITS MOST_PROCESS_LEVELS ws ≡ Some r → (b : List Word) → r.1 ≡ b → ((p : Written) × IsProcess g p ws) ⊎ ((p : Written) → IsProcess g p ws → ⊥)
      ended r e [] q = inl (without_numbers r.0.0, whole_is g ws r.0.0 r.0.1 (e ∙ ap (λ (b : List Word). Some (r.0, b)) q))
      ended r e (w ∷ more) q = inr (no_other_whole g ws r.1 r.0 e (λ none. absurd (cc (q, none))) g)

      by : (o : Read Levelled) → par g FILE_LIMITS MOST_PROCESS_LEVELS ws ≡ o → ((p : Written) × IsProcess g p ws) ⊎ ((p : Written) → IsProcess g p ws → ⊥)
      by None e = inr (nothing_whole g ws e g)
      by (Some r) e = ended r e r.1 refl

-- where no words are left, no tokens are
pub no_words : (z : List ℕ) (ts : List Token) → words_of z ts ≡ [] → ts ≡ []
no_words z [] e = refl
no_words z (t ∷ ts) e = absurd (cc (e))
