-- The symbols that declarations make can be declared, where each that is declared can.
use Rattle.std.proofs.Common.{◌≡◌, ◌≤◌, ℕ, Bool, true, false, List, [], ◌∷◌, ◌++◌, length, refl, arith}
use Rattle.std.specs.Prelude.{codes, is_some, if◌then◌else◌}
use Rattle.std.specs.List.{AllByRecursion}
use Rattle.sap_terms.specs.declared.signature.Symbol.{Symbol}
use Rattle.sap_terms.specs.declared.signature.Builtin.{Builtin}
use Rattle.sap_terms.specs.declared.signature.Builtin.TheVariants.{Hashing, Symmetric, Asymmetric, Signing, RevealingSigning}
use Rattle.sap_terms.specs.Signature.{Sig, find_symbol, declared, declared_all, added, builtin_symbols, first_clash, pairs_alone, public_symbol}
use Rattle.sap_text.specs.declared.token.Kind.TheVariants as kind
use Rattle.sap_text.specs.Tokens.{IsToken, ident}
use Rattle.sap_grammar.specs.Words.{is_grammar_word, is_lower}
use Rattle.sap_grammar.specs.Declarations.{Declaration, of_builtin, of_symbol}
use Rattle.sap_grammar.specs.Signatures.{signature_from, with_declaration}
use Rattle.sap_read.specs.Printable.{IsDeclarable}

module _ (most : ℕ) where
  abbrev CanBe : List Symbol → Type 0
  CanBe ss = AllByRecursion (IsDeclarable most) ss

  can_with : (ss : List Symbol) (x : Symbol) → CanBe ss → IsDeclarable most x → CanBe (ss ++ x ∷ [])
  can_with [] x h k = (k, tt)
  can_with (s ∷ ss) x h k = (h.0, can_with ss x h.1 k)

  can_declared : (ss : List Symbol) (x : Symbol) → CanBe ss → IsDeclarable most x → CanBe (declared ss x.name x.arity x.private)
  can_declared ss x h k = by (is_some (find_symbol ss x.name))
    where
      by : (c : Bool) → CanBe (if c then ss else ss ++ x ∷ [])
      by true = h
      by false = can_with ss x h k

  can_all : (xs ss : List Symbol) → CanBe ss → CanBe xs → CanBe (declared_all ss xs)
  can_all [] ss h k = h
  can_all (x ∷ xs) ss h k = can_all xs (declared ss x.name x.arity x.private) (can_declared ss x h k.0) k.1

  -- what declares a symbol declares one that can be
  abbrev pub IsDeclaredWell : Declaration → Type 0
  IsDeclaredWell (of_builtin b) = Unit {0}
  IsDeclaredWell (of_symbol s) = IsDeclarable most s

  module _ (room : 64 ≤ most) where
    -- a builtin's symbol
    own : (x : List ℕ) (n : ℕ) → is_lower x ≡ true → n ≤ 3 → IsToken kind.Ident x → is_grammar_word x ≡ false → length x ≤ 64 → IsDeclarable most (public_symbol x n)
    own x n low few is free short =
        record { lower = low; few = omega (arith, few); name = record { is = is; no_grammar_word = free; short = omega (arith, short, room) } }

    h_can : IsDeclarable most (public_symbol (codes "h") 1)
    h_can = own (codes "h") 1 refl (omega arith) (ident refl refl) refl (omega arith)

    senc_can : IsDeclarable most (public_symbol (codes "senc") 2)
    senc_can = own (codes "senc") 2 refl (omega arith) (ident refl refl) refl (omega arith)

    sdec_can : IsDeclarable most (public_symbol (codes "sdec") 2)
    sdec_can = own (codes "sdec") 2 refl (omega arith) (ident refl refl) refl (omega arith)

    aenc_can : IsDeclarable most (public_symbol (codes "aenc") 2)
    aenc_can = own (codes "aenc") 2 refl (omega arith) (ident refl refl) refl (omega arith)

    adec_can : IsDeclarable most (public_symbol (codes "adec") 2)
    adec_can = own (codes "adec") 2 refl (omega arith) (ident refl refl) refl (omega arith)

    pk_can : IsDeclarable most (public_symbol (codes "pk") 1)
    pk_can = own (codes "pk") 1 refl (omega arith) (ident refl refl) refl (omega arith)

    sign_can : IsDeclarable most (public_symbol (codes "sign") 2)
    sign_can = own (codes "sign") 2 refl (omega arith) (ident refl refl) refl (omega arith)

    verify_can : IsDeclarable most (public_symbol (codes "verify") 3)
    verify_can = own (codes "verify") 3 refl (omega arith) (ident refl refl) refl (omega arith)

    true_can : IsDeclarable most (public_symbol (codes "true") 0)
    true_can = own (codes "true") 0 refl (omega arith) (ident refl refl) refl (omega arith)

    revealSign_can : IsDeclarable most (public_symbol (codes "revealSign") 2)
    revealSign_can = own (codes "revealSign") 2 refl (omega arith) (ident refl refl) refl (omega arith)

    revealVerify_can : IsDeclarable most (public_symbol (codes "revealVerify") 3)
    revealVerify_can = own (codes "revealVerify") 3 refl (omega arith) (ident refl refl) refl (omega arith)

    getMessage_can : IsDeclarable most (public_symbol (codes "getMessage") 1)
    getMessage_can = own (codes "getMessage") 1 refl (omega arith) (ident refl refl) refl (omega arith)

    pair_can : IsDeclarable most (public_symbol (codes "pair") 2)
    pair_can = own (codes "pair") 2 refl (omega arith) (ident refl refl) refl (omega arith)

    fst_can : IsDeclarable most (public_symbol (codes "fst") 1)
    fst_can = own (codes "fst") 1 refl (omega arith) (ident refl refl) refl (omega arith)

    snd_can : IsDeclarable most (public_symbol (codes "snd") 1)
    snd_can = own (codes "snd") 1 refl (omega arith) (ident refl refl) refl (omega arith)

    builtin_can : (b : Builtin) → CanBe (builtin_symbols b)
    builtin_can Hashing = (h_can, tt)
    builtin_can Symmetric = (senc_can, (sdec_can, tt))
    builtin_can Asymmetric = (aenc_can, (adec_can, (pk_can, tt)))
    builtin_can Signing = (sign_can, (verify_can, (pk_can, (true_can, tt))))
    builtin_can RevealingSigning = (revealSign_can, (revealVerify_can, (getMessage_can, (pk_can, (true_can, tt)))))

    can_with_declaration : (g : Sig) (d : Declaration) → CanBe g.symbols → IsDeclaredWell d → CanBe (with_declaration g d).symbols
    can_with_declaration g (of_symbol x) h k = can_declared g.symbols x h k
    can_with_declaration g (of_builtin b) h k = by (is_some (first_clash g.symbols (builtin_symbols b)))
      where
        by : (c : Bool) → CanBe (if c then g else added g b).symbols
        by true = h
        by false = can_all (builtin_symbols b) g.symbols h (builtin_can b)

    can_from : (ds : List Declaration) (g : Sig) → CanBe g.symbols → AllByRecursion IsDeclaredWell ds → CanBe (signature_from g ds).symbols
    can_from [] g h k = h
    can_from (d ∷ ds) g h k = can_from ds (with_declaration g d) (can_with_declaration g d h k.0) k.1

    pub declared_can : (ds : List Declaration) → AllByRecursion IsDeclaredWell ds → CanBe (signature_from pairs_alone ds).symbols
    declared_can ds k = can_from ds pairs_alone (pair_can, (fst_can, (snd_can, tt))) k
