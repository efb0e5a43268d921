-- Bytes are parted in one way, and what is written in a file is refused for no cause that is looked for before its uses.
use Rattle.std.proofs.Common.{◌≡◌, ℕ, List, Some, None, Ok, Err, refl, sym, subst, ◌∙◌}
use Rattle.sap_text.specs.declared.token.Token.{Token}
use Rattle.sap_text.specs.Tokens.{Lexed, IsLexed}
use Rattle.sap_terms.specs.declared.limits.TheConstants.{MOST_FILE_NAME_BYTES}
use Rattle.sap_grammar.specs.Cut.{Placed, placed, IsCut, IsHeader, last_line}
use Rattle.sap_grammar.specs.ItemLaws.{ItemLaws}
use Rattle.sap_locks.specs.Annotation.{LockFlaw, without, over}
use Rattle.sap_statements.specs.StatementLaws.{StatementLaws}
use Rattle.sap_uses.specs.declared.fault.MacroFault.{MacroFault}
use Rattle.sap_uses.specs.declared.fault.MacroFault.TheVariants as uses
use Rattle.sap_read.specs.Causes.{cause_of, fault_of_uses, lock_fault}
use Rattle.sap_read.specs.Files.{AreTokens, IsParted, IsRead, no_tokens, no_header, no_item, refused, unexpanded, ill, locked, unchecked}
use Rattle.sap_read.specs.Item.{Standing, signature_of}
use Rattle.sap_read.specs.ItemGrammar.{AreItems, IsFaultyFile}
use Rattle.sap_read.specs.WrittenFiles.{IsEarly}
use Rattle.sap_read.specs.code.ProcessLaws.{ProcessLaws}
use Rattle.sap_read.specs.declared.fault.ReadFault.{ReadFault}
use Rattle.sap_read.specs.declared.fault.ReadFault.TheVariants.{Mem}
use Rattle.sap_read.proofs.ItemsRead.{good_or_faulty}
use Rattle.sap_read.proofs.OneFile.{same_items}

-- one answer for the tokens of bytes
abbrev pub IsOneAnswer : Type 0
IsOneAnswer = (most : ℕ) (z : List ℕ) (o u : Lexed) → IsLexed most 0 1 z o → IsLexed most 0 1 z u → o ≡ u

pub one_tokens : IsOneAnswer → {z : List ℕ} {ts us : List Token} → AreTokens z ts → AreTokens z us → ts ≡ us
one_tokens one {z = z} {ts = ts} {us = us} t u = let same : ◌≡◌ {A = Lexed} (Ok ts) (Ok us) = one MOST_FILE_NAME_BYTES z (Ok ts) (Ok us) t u in cc

-- no cause of uses or of locks is early
late_use : (f : MacroFault) → IsEarly (fault_of_uses f) → (fault_of_uses f ≡ Mem → ⊥) → ⊥
late_use uses.Mem early more = more refl
late_use (uses.Parameters x) early more = early
late_use (uses.Arguments x) early more = early
late_use uses.TooMany early more = early
late_use uses.TooDeep early more = early
late_use (uses.Large x) early more = early
late_use (uses.Flawed x w path) early more = early

late_lock : (w : LockFlaw) (path : List ℕ) → IsEarly (lock_fault w path) → ⊥
late_lock without path early = early
late_lock over path early = early

module _ (laws : ItemLaws) (one : IsOneAnswer) where
  pub one_cut : {z : List ℕ} {ts us : List Token} {x y : List ℕ} {cut dut : List (List Placed)} → IsParted z ts x cut → IsParted z us y dut → cut ≡ dut
  one_cut {z = z} {ts = ts} {us = us} {x = x} {y = y} {cut = cut} {dut = dut} p q =
      let tokens : ts ≡ us = one_tokens one p.tokens q.tokens in
      let header : IsHeader x (placed z us) p.rest = subst (λ (vs : List Token). IsHeader x (placed z vs) p.rest) tokens p.header in
      let heads = laws.one_header x y (placed z us) p.rest q.rest header q.header in
      laws.one_cut q.rest cut dut (subst (λ (r : List Placed). IsCut r cut) heads.1 p.items) q.items

  module _ (stated : StatementLaws) (written : ProcessLaws) where
    pub no_early_cause : (z : List ℕ) (ts : List Token) (x : List ℕ) (cut : List (List Placed)) (is : List Standing) (e : ReadFault) → IsParted z ts x cut → AreItems (signature_of is) cut is
        → cause_of is ≡ None → IsEarly e → (e ≡ Mem → ⊥) → IsRead z (Err e) → ⊥
    no_early_cause z ts x cut is e p i n early more r = go r early more
      where
        go : {e : ReadFault} → IsRead z (Err e) → IsEarly e → (e ≡ Mem → ⊥) → ⊥
        go (no_tokens {f = f} l) early more = let clash : ◌≡◌ {A = Lexed} (Err f) (Ok ts) = one MOST_FILE_NAME_BYTES z (Err f) (Ok ts) l p.tokens in absurd (cc)
        go (no_header {ts = us} t h) early more =
            let tokens : ts ≡ us = one_tokens one p.tokens t in h x p.rest (subst (λ (vs : List Token). IsHeader x (placed z vs) p.rest) tokens p.header)
        go (no_item {ts = us} {cut = dut} {line = line} q f) early more =
            good_or_faulty (signature_of is) (last_line (placed z us)) line cut is i (subst (λ (c : List (List Placed)). IsFaultyFile (last_line (placed z us)) c line) (one_cut q p) f)
        go (refused {cut = dut} {is = js} {e = d} q j c) early more =
            let same : js ≡ is = same_items laws stated written cut js is (subst (λ (k : List (List Placed)). AreItems (signature_of js) k js) (one_cut q p) j) i in
            let clash : Some d ≡ None = sym c ∙ subst (λ (ks : List Standing). cause_of ks ≡ None) (sym same) n in absurd (cc)
        go (unexpanded {f = f} q j c u) early more = late_use f early more
        go (ill q j c w f) early more = early
        go (locked {w = w} {path = path} q j c v good f) early more = late_lock w path early
        go (unchecked q j c w f a u) early more = early
