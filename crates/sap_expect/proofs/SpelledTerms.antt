-- Terms and facts that follow the table are spelled by the grammar, with their levels.
use Rattle.std.proofs.Common.{◌≡◌, ◌≤◌, ℕ, true, false, List, [], ◌∷◌, None, sym, subst}
use Rattle.std.specs.Prelude.{codes}
use Rattle.sap_terms.specs.declared.fact.Fact.{Fact}
use Rattle.sap_terms.specs.Signature.{Sig}
use Rattle.sap_terms.specs.Tree.{Tree, level_count, trees_levels, trees_of}
use Rattle.sap_grammar.specs.Words.{Word}
use Rattle.sap_grammar.specs.TermGrammar.{IsArgs, IsTerm}
use Rattle.sap_grammar.specs.FactGrammar.{AreFacts, IsShortFact}
use Rattle.sap_draft.specs.declared.limits.TheConstants.{FILE_LIMITS}
use Rattle.sap_expect.specs.declared.wanted.Limit.{Limit}
use Rattle.sap_expect.specs.declared.wanted.Part.{Part}
use Rattle.sap_expect.specs.declared.wanted.Part.TheVariants.{Application, Fact as AFact, Facts, MoreFacts, MoreParts, MoreShown, MoreTerms, Pair, Shown, Term, Terms}
use Rattle.sap_expect.specs.FileTable.{Open, Reads, otherwise, part, row, rows}
use Rattle.sap_expect.proofs.Meant.{AreOther, AreRow, Each, Parted, parted, reads_of}
use Rattle.sap_expect.proofs.TermRows.{application_other, application_row, more_parts_row, more_terms_row, pair_row, term_row, terms_other, terms_row}
use Rattle.sap_expect.proofs.FactRows.{fact_row, facts_other, facts_row, more_facts_row, more_shown_row, of_facts, shown_row}

-- of a word nothing is asked
abbrev pub Free : Word → Type 0
Free w = Unit {0}

module _ (g : Sig) where
  pub fact_rows : (p : Part) (m n : ℕ) (w : Word) (a : List Word) (k : ℕ) (b : List Word) → AreRow (of_facts g) (rows p) m n w a k b → of_facts g p m n (w ∷ a) k b
  fact_rows Term m n w a k b h = term_row h
  fact_rows Application m n w a k b h = application_row h
  fact_rows Terms m n w a k b h = terms_row h
  fact_rows MoreTerms m n w a k b h = more_terms_row h
  fact_rows Pair m n w a k b h = pair_row h
  fact_rows MoreParts m n w a k b h = more_parts_row h
  fact_rows AFact m n w a k b h = fact_row m n h
  fact_rows Facts m n w a k b h = facts_row m n h
  fact_rows MoreFacts m n w a k b h = more_facts_row m n h
  fact_rows Shown m n w a k b h = shown_row m n h
  fact_rows MoreShown m n w a k b h = more_shown_row m n h
  fact_rows p m n w a k b h = tt

  pub fact_others : (p : Part) (m n : ℕ) (w : Word) (a : List Word) (k : ℕ) (b : List Word) → row p w ≡ None → AreOther (of_facts g) (otherwise p) m n (w ∷ a) k b → of_facts g p m n (w ∷ a) k b
  fact_others Application m n w a k b e h = application_other h
  fact_others Terms m n w a k b e h = terms_other n h
  fact_others Facts m n w a k b e h = facts_other m n h
  fact_others Term m n w a k b e h = absurd h
  fact_others MoreTerms m n w a k b e h = absurd h
  fact_others Pair m n w a k b e h = absurd h
  fact_others MoreParts m n w a k b e h = absurd h
  fact_others AFact m n w a k b e h = absurd h
  fact_others MoreFacts m n w a k b e h = absurd h
  fact_others Shown m n w a k b e h = absurd h
  fact_others MoreShown m n w a k b e h = absurd h
  fact_others p m n w a k b e h = tt

  each_free : (ws : List Word) → Each (of_facts g) Free ws
  each_free [] = tt
  each_free (w ∷ ws) = (tt, each_free ws)

  parts : (n : ℕ) (vs : List Open) (ws : List Word) → Reads n vs ws → Parted (of_facts g) n vs ws
  parts n vs ws r = parted (of_facts g) Free (λ p m n w a k b l h. fact_rows p m n w a k b h) (λ p m n w a k b l e h. fact_others p m n w a k b e h) r (each_free ws)

  pub term_spelled : (n m : ℕ) (l : Limit) (vs : List Open) (ws : List Word) → 1 ≤ m → Reads n ((part Term l, m) ∷ vs) ws
      → (t : Tree) × (b : List Word) × IsTerm g t ws b × (level_count t ≤ m) × Reads (level_count t) vs b
  term_spelled n m l vs ws le r =
      let h = parts n ((part Term l, m) ∷ vs) ws r in
      let s = h.1.2 le in (
        s.tree,
        h.1.1,
        s.is,
        subst (λ (k : ℕ). k ≤ m) (sym s.levels) s.fits.1,
        subst (λ (k : ℕ). Reads k vs h.1.1) (sym s.levels) (reads_of (of_facts g) h.1.0 vs h.1.1 h.1.3),
      )

  pub args_spelled : (n m : ℕ) (l : Limit) (vs : List Open) (ws : List Word) → Reads n ((part Terms l, m) ∷ vs) ws
      → (ts : List Tree) × (b : List Word) × IsArgs g ts ws b × (trees_levels (trees_of ts) ≤ m) × Reads (trees_levels (trees_of ts)) vs b
  args_spelled n m l vs ws r =
      let h = parts n ((part Terms l, m) ∷ vs) ws r in
      let s = h.1.2 in (
        s.trees,
        h.1.1,
        s.are,
        subst (λ (k : ℕ). k ≤ m) (sym s.levels) s.few,
        subst (λ (k : ℕ). Reads k vs h.1.1) (sym s.levels) (reads_of (of_facts g) h.1.0 vs h.1.1 h.1.3),
      )

  pub fact_spelled : (n m : ℕ) (l : Limit) (vs : List Open) (ws : List Word) → Reads n ((part AFact l, m) ∷ vs) ws
      → (f : Fact) × (k : ℕ) × (b : List Word) × IsShortFact g FILE_LIMITS true f ws b × Reads k vs b
  fact_spelled n m l vs ws r =
      let h = parts n ((part AFact l, m) ∷ vs) ws r in
      (h.1.2.0, h.1.0, h.1.1, h.1.2.1, reads_of (of_facts g) h.1.0 vs h.1.1 h.1.3)

  pub facts_spelled : (n m : ℕ) (l : Limit) (vs : List Open) (ws : List Word) → Reads n ((part Facts l, m) ∷ vs) ws
      → (fs : List Fact) × (k : ℕ) × (b : List Word) × AreFacts g FILE_LIMITS true (codes "]") fs ws b × Reads k vs b
  facts_spelled n m l vs ws r =
      let h = parts n ((part Facts l, m) ∷ vs) ws r in
      (h.1.2.0, h.1.0, h.1.1, h.1.2.1, reads_of (of_facts g) h.1.0 vs h.1.1 h.1.3)

  pub shown_spelled : (n m : ℕ) (l : Limit) (vs : List Open) (ws : List Word) → Reads n ((part Shown l, m) ∷ vs) ws
      → (fs : List Fact) × (k : ℕ) × (b : List Word) × AreFacts g FILE_LIMITS false (codes "]->") fs ws b × Reads k vs b
  shown_spelled n m l vs ws r =
      let h = parts n ((part Shown l, m) ∷ vs) ws r in
      (h.1.2.0, h.1.0, h.1.1, h.1.2.1, reads_of (of_facts g) h.1.0 vs h.1.1 h.1.3)
