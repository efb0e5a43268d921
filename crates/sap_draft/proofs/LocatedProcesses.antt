-- A process with the words that tell its places is, without them, what is spelled.
use Rattle.std.proofs.Common.{◌≡◌, ℕ, suc, ◌+◌, max, List, [], ◌∷◌, length, refl, ap, ◌∙◌}
use Rattle.std.specs.Prelude.{codes}
use Rattle.sap_terms.specs.declared.var.Sort.TheVariants.{Msg}
use Rattle.sap_terms.specs.Signature.{Sig}
use Rattle.sap_terms.specs.Tree.{Tree}
use Rattle.sap_grammar.specs.Words.{Word, mark, name, number}
use Rattle.sap_grammar.specs.Sizes.{AreSmall}
use Rattle.sap_grammar.specs.TermGrammar.{IsShort, IsList}
use Rattle.sap_process.specs.Action.{Action}
use Rattle.sap_grammar.specs.declared.limits.Limits.{Limits}
use Rattle.sap_macro.specs.Written.{Written, nil, parallel, replicated, act, test, lookup}
use Rattle.sap_macro.specs.Located.{Located, nil_at, call_at, parallel_at, replicated_at, act_at, test_at, lookup_at, without_numbers}
use Rattle.sap_draft.specs.ProcessGrammar.{var, Ending, closed, dangling, IsBar, IsAction, IsSeq, IsPar, seq_nil, seq_call, seq_use, seq_parentheses, seq_replicated, seq_action, seq_then, seq_if, seq_if_else, seq_lookup, seq_lookup_else, par_one, par_more}
use Rattle.sap_draft.specs.LocatedProcesses.{seq_located, par_located}

-- two parts, one after the other
both : {A : Type 0} (f : A → A → A) {p q r s : A} → p ≡ q → r ≡ s → f p r ≡ f q s
both f {q = q} {r = r} e h = ap (λ x. f x r) e ∙ ap (λ x. f q x) h

mutual
  pub seq_plain : {g : Sig} {m : Limits} {e : Ending} {p : Written} {n : ℕ} {a b : List Word} (r : IsSeq g m e p n a b) → without_numbers (seq_located r) ≡ p
  seq_plain seq_nil = refl
  seq_plain seq_call = refl
  seq_plain (seq_use r small) = refl
  seq_plain (seq_parentheses r) = par_plain r
  seq_plain (seq_replicated r) = ap replicated (seq_plain r)
  seq_plain (seq_action r) = refl
  seq_plain (seq_then {x = x} r s) = ap (λ p. act x p) (seq_plain s)
  seq_plain (seq_if {t = t} {u = u} l r s) = ap (λ p. test t u p nil) (seq_plain s)
  seq_plain (seq_if_else {t = t} {u = u} l r s o) = both (λ p q. test t u p q) (seq_plain s) (seq_plain o)
  seq_plain (seq_lookup {t = t} {x = x} r s) = ap (λ p. lookup t (var Msg x) p nil) (seq_plain s)
  seq_plain (seq_lookup_else {t = t} {x = x} r s o) = both (λ p q. lookup t (var Msg x) p q) (seq_plain s) (seq_plain o)

  pub par_plain : {g : Sig} {m : Limits} {p : Written} {n : ℕ} {a b : List Word} (r : IsPar g m p n a b) → without_numbers (par_located r) ≡ p
  par_plain (par_one r) = seq_plain r
  par_plain (par_more bar r s) = both parallel (seq_plain r) (par_plain s)

-- ---- spelled so, with these numbers

pub record SeqAt (g : Sig) (m : Limits) (e : Ending) (w : Located) (n : ℕ) (a b : List Word) : Type 0 where
  pub spelled : IsSeq g m e (without_numbers w) n a b
  pub located : seq_located spelled ≡ w

pub record ParAt (g : Sig) (m : Limits) (w : Located) (n : ℕ) (a b : List Word) : Type 0 where
  pub spelled : IsPar g m (without_numbers w) n a b
  pub located : par_located spelled ≡ w

module _ {g : Sig} {m : Limits} where
  pub at_nil : {a : List Word} → SeqAt g m closed (nil_at (suc (length a))) 1 (number (codes "0") ∷ a) a
  at_nil = record { spelled = seq_nil; located = refl }

  pub at_call : {x : List ℕ} {a : List Word} → SeqAt g m closed (call_at (suc (length a)) x []) 1 (name x ∷ a) a
  at_call = record { spelled = seq_call; located = refl }

  pub at_use : {x : List ℕ} {ts : List Tree} {a b : List Word} → IsList g ts a b → AreSmall m ts
      → SeqAt g m closed (call_at (suc (suc (length a))) x ts) 1 (name x ∷ mark (codes "(") ∷ a) b
  at_use r small = record { spelled = seq_use r small; located = refl }

  pub at_parentheses : {p : Located} {n : ℕ} {a b : List Word} → ParAt g m p n a (mark (codes ")") ∷ b) → SeqAt g m closed p (n + 1) (mark (codes "(") ∷ a) b
  at_parentheses r = record { spelled = seq_parentheses r.spelled; located = r.located }

  pub at_replicated : {e : Ending} {p : Located} {n : ℕ} {a b : List Word} → SeqAt g m e p n a b
      → SeqAt g m e (replicated_at (suc (length a)) p) (n + 1) (mark (codes "!") ∷ a) b
  at_replicated {a = a} r = record { spelled = seq_replicated r.spelled; located = ap (λ w. replicated_at (suc (length a)) w) r.located }

  pub at_action : {x : Action} {a b : List Word} → IsAction g m x a b → SeqAt g m closed (act_at (length a) x (nil_at (length a))) 2 a b
  at_action r = record { spelled = seq_action r; located = refl }

  pub at_then : {e : Ending} {x : Action} {p : Located} {n : ℕ} {a b c : List Word} → IsAction g m x a (mark (codes ";") ∷ b) → SeqAt g m e p n b c
      → SeqAt g m e (act_at (length a) x p) (n + 1) a c
  at_then {x = x} {a = a} r s = record { spelled = seq_then r s.spelled; located = ap (λ w. act_at (length a) x w) s.located }

  pub at_if : {e : Ending} {t u : Tree} {p : Located} {n : ℕ} {a b c d : List Word} → IsShort g m t a (mark (codes "=") ∷ b) → IsShort g m u b (mark (codes "then") ∷ c) → SeqAt g m e p n c d
      → SeqAt g m dangling (test_at (suc (length a)) t u p (nil_at (suc (length a)))) (max n 1 + 1) (mark (codes "if") ∷ a) d
  at_if {t = t} {u = u} {a = a} l r s =
      record { spelled = seq_if l r s.spelled; located = ap (λ w. test_at (suc (length a)) t u w (nil_at (suc (length a)))) s.located }

  pub at_if_else : {e : Ending} {t u : Tree} {p q : Located} {n k : ℕ} {a b c d f : List Word} → IsShort g m t a (mark (codes "=") ∷ b) → IsShort g m u b (mark (codes "then") ∷ c)
      → SeqAt g m closed p n c (mark (codes "else") ∷ d) → SeqAt g m e q k d f → SeqAt g m e (test_at (suc (length a)) t u p q) (max n k + 1) (mark (codes "if") ∷ a) f
  at_if_else {t = t} {u = u} {a = a} l r s o =
      record { spelled = seq_if_else l r s.spelled o.spelled; located = both (λ v w. test_at (suc (length a)) t u v w) s.located o.located }

  pub at_lookup : {e : Ending} {t : Tree} {x : List ℕ} {p : Located} {n : ℕ} {a b c : List Word} → IsShort g m t a (mark (codes "as") ∷ name x ∷ mark (codes "in") ∷ b) → SeqAt g m e p n b c
      → SeqAt g m dangling (lookup_at (suc (length a)) t (var Msg x) p (nil_at (suc (length a)))) (max n 1 + 1) (mark (codes "lookup") ∷ a) c
  at_lookup {t = t} {x = x} {a = a} r s =
      record { spelled = seq_lookup r s.spelled; located = ap (λ w. lookup_at (suc (length a)) t (var Msg x) w (nil_at (suc (length a)))) s.located }

  pub at_lookup_else : {e : Ending} {t : Tree} {x : List ℕ} {p q : Located} {n k : ℕ} {a b c d : List Word} → IsShort g m t a (mark (codes "as") ∷ name x ∷ mark (codes "in") ∷ b)
      → SeqAt g m closed p n b (mark (codes "else") ∷ c) → SeqAt g m e q k c d → SeqAt g m e (lookup_at (suc (length a)) t (var Msg x) p q) (max n k + 1) (mark (codes "lookup") ∷ a) d
  at_lookup_else {t = t} {x = x} {a = a} r s o =
      record { spelled = seq_lookup_else r s.spelled o.spelled; located = both (λ v w. lookup_at (suc (length a)) t (var Msg x) v w) s.located o.located }

  pub at_one : {e : Ending} {p : Located} {n : ℕ} {a b : List Word} → SeqAt g m e p n a b → ParAt g m p n a b
  at_one r = record { spelled = par_one r.spelled; located = r.located }

  pub at_more : {e : Ending} {p q : Located} {n k : ℕ} {w : List ℕ} {a b c : List Word} → IsBar w → SeqAt g m e p n a (mark w ∷ b) → ParAt g m q k b c
      → ParAt g m (parallel_at (suc (length b)) p q) (max n k + 1) a c
  at_more {b = b} bar r s = record { spelled = par_more bar r.spelled s.spelled; located = both (λ v w. parallel_at (suc (length b)) v w) r.located s.located }
