-- A process that words spell, with the words that tell its places: of each form the words from its first on, of a parallel those
-- from its sign on. What is missing has the number of the form behind which it is missing.
use Rattle.std.specs.Prelude.{◌≡◌, ℕ, suc, List, [], length}
use Rattle.sap_terms.specs.declared.var.Sort.TheVariants.{Msg}
use Rattle.sap_terms.specs.Signature.{Sig}
use Rattle.sap_grammar.specs.Words.{Word}
use Rattle.sap_grammar.specs.declared.limits.Limits.{Limits}
use Rattle.sap_macro.specs.Written.{Written}
use Rattle.sap_macro.specs.Located.{Located, without_numbers, nil_at, call_at, parallel_at, replicated_at, act_at, test_at, lookup_at}
use Rattle.sap_draft.specs.declared.limits.TheConstants.{FILE_LIMITS}
use Rattle.sap_draft.specs.ProcessGrammar.{var, Ending, IsSeq, IsPar, seq_nil, seq_call, seq_use, seq_parentheses, seq_replicated, seq_action, seq_then, seq_if, seq_if_else, seq_lookup, seq_lookup_else, par_one, par_more}

abbrev mutual
  -- parentheses have no place of their own
  pub seq_located : {g : Sig} {m : Limits} {e : Ending} {p : Written} {n : ℕ} {a b : List Word}
      → IsSeq g m e p n a b → Located
  seq_located (seq_nil {a = a}) = nil_at (suc (length a))
  seq_located (seq_call {x = x} {a = a}) = call_at (suc (length a)) x []
  seq_located (seq_use {x = x} {ts = ts} {a = a} r small) = call_at (suc (suc (length a))) x ts
  seq_located (seq_parentheses r) = par_located r
  seq_located (seq_replicated {a = a} r) = replicated_at (suc (length a)) (seq_located r)
  seq_located (seq_action {x = x} {a = a} r) = act_at (length a) x (nil_at (length a))
  seq_located (seq_then {x = x} {a = a} r s) = act_at (length a) x (seq_located s)
  seq_located (seq_if {t = t} {u = u} {a = a} l r s) =
      test_at (suc (length a)) t u (seq_located s) (nil_at (suc (length a)))
  seq_located (seq_if_else {t = t} {u = u} {a = a} l r s o) =
      test_at (suc (length a)) t u (seq_located s) (seq_located o)
  seq_located (seq_lookup {t = t} {x = x} {a = a} r s) =
      lookup_at (suc (length a)) t (var Msg x) (seq_located s) (nil_at (suc (length a)))
  seq_located (seq_lookup_else {t = t} {x = x} {a = a} r s o) =
      lookup_at (suc (length a)) t (var Msg x) (seq_located s) (seq_located o)

  pub par_located : {g : Sig} {m : Limits} {p : Written} {n : ℕ} {a b : List Word}
      → IsPar g m p n a b → Located
  par_located (par_one r) = seq_located r
  par_located (par_more {b = b} bar r s) = parallel_at (suc (length b)) (seq_located r) (par_located s)

-- all of the words spell this, with these numbers, where terms keep to a file's limits
pub record IsLocated (g : Sig) (w : Located) (a : List Word) : Type 0 where
  pub levels : ℕ
  pub spelled : IsPar g FILE_LIMITS (without_numbers w) levels a []
  pub places : par_located spelled ≡ w
