-- Where the symbols of a signature come from.
use Rattle.std.proofs.Common.{◌≡◌, ℕ, Bool, true, false, List, [], ◌∷◌, ◌++◌, Some, refl, sym, subst}
use Rattle.std.specs.Prelude.{◌||◌, filter, is_some, if◌then◌else◌}
use Rattle.std.specs.List.{list_any}
use Rattle.std.specs.Str.{bytes_eq}
use Rattle.std.proofs.lemmas.Slice.Eq.{bytes_eq-Decides}
use Rattle.sap_terms.specs.declared.signature.Symbol.{Symbol}
use Rattle.sap_terms.specs.declared.signature.Builtin.{Builtin}
use Rattle.sap_terms.specs.declared.signature.Builtin.TheVariants.{Hashing, Symmetric, Asymmetric, Signing, RevealingSigning}
use Rattle.sap_terms.specs.Signature.{Sig, find_symbol, has_builtin, builtin_symbols, declared, declared_all, added, first_clash}
use Rattle.sap_grammar.specs.Declarations.{Declaration, of_builtin, of_symbol}
use Rattle.sap_grammar.specs.Signatures.{with_declaration, signature_from}
use Rattle.sap_theory.specs.SignatureText.{builtins_of, is_among}
use Rattle.sap_theory.proofs.Declared.{IsWithin, find_last, find_kept}

-- What is held stays.
declared_keeps : (ss : List Symbol) (s : Symbol) → IsWithin ss (declared ss s.name s.arity s.private)
declared_keeps ss s x y e = by_held (is_some (find_symbol ss s.name))
  where
    by_held : (c : Bool) → find_symbol (if c then ss else ss ++ s ∷ []) x ≡ Some y
    by_held true = e
    by_held false = find_kept ss (s ∷ []) x y e

all_keeps : (xs ss : List Symbol) → IsWithin ss (declared_all ss xs)
all_keeps [] ss x y e = e
all_keeps (u ∷ xs) ss x y e = all_keeps xs (declared ss u.name u.arity u.private) x y (declared_keeps ss u x y e)

one_keeps : (h : Sig) (d : Declaration) → IsWithin h.symbols (with_declaration h d).symbols
one_keeps h (of_builtin b) x y e = by_clash (is_some (first_clash h.symbols (builtin_symbols b)))
  where
    by_clash : (c : Bool) → find_symbol (if c then h else added h b).symbols x ≡ Some y
    by_clash true = e
    by_clash false = all_keeps (builtin_symbols b) h.symbols x y e
one_keeps h (of_symbol s) x y e = declared_keeps h.symbols s x y e

pub signature_keeps : (ds : List Declaration) (h : Sig) → IsWithin h.symbols (signature_from h ds).symbols
signature_keeps [] h x y e = e
signature_keeps (d ∷ ds) h x y e = signature_keeps ds (with_declaration h d) x y (one_keeps h d x y e)

-- So are builtins.
added_flag : (h : Sig) (b : Builtin) → has_builtin (added h b) b ≡ true
added_flag h Hashing = refl
added_flag h Symmetric = refl
added_flag h Asymmetric = refl
added_flag h Signing = refl
added_flag h RevealingSigning = refl

flag_added : (h : Sig) (b c : Builtin) → has_builtin h c ≡ true → has_builtin (added h b) c ≡ true
flag_added h Hashing Hashing e = refl
flag_added h Hashing Symmetric e = e
flag_added h Hashing Asymmetric e = e
flag_added h Hashing Signing e = e
flag_added h Hashing RevealingSigning e = e
flag_added h Symmetric Hashing e = e
flag_added h Symmetric Symmetric e = refl
flag_added h Symmetric Asymmetric e = e
flag_added h Symmetric Signing e = e
flag_added h Symmetric RevealingSigning e = e
flag_added h Asymmetric Hashing e = e
flag_added h Asymmetric Symmetric e = e
flag_added h Asymmetric Asymmetric e = refl
flag_added h Asymmetric Signing e = e
flag_added h Asymmetric RevealingSigning e = e
flag_added h Signing Hashing e = e
flag_added h Signing Symmetric e = e
flag_added h Signing Asymmetric e = e
flag_added h Signing Signing e = refl
flag_added h Signing RevealingSigning e = e
flag_added h RevealingSigning Hashing e = e
flag_added h RevealingSigning Symmetric e = e
flag_added h RevealingSigning Asymmetric e = e
flag_added h RevealingSigning Signing e = e
flag_added h RevealingSigning RevealingSigning e = refl

flag_symbols : (ss : List Symbol) (h : Sig) (b : Builtin) → has_builtin h b ≡ true → has_builtin (record { symbols = ss; builtins = h.builtins }) b ≡ true
flag_symbols ss h Hashing e = e
flag_symbols ss h Symmetric e = e
flag_symbols ss h Asymmetric e = e
flag_symbols ss h Signing e = e
flag_symbols ss h RevealingSigning e = e

flag_stays : (ds : List Declaration) (h : Sig) (b : Builtin) → has_builtin h b ≡ true → has_builtin (signature_from h ds) b ≡ true
flag_stays [] h b e = e
flag_stays (of_builtin c ∷ ds) h b e = flag_stays ds (with_declaration h (of_builtin c)) b (by_clash (is_some (first_clash h.symbols (builtin_symbols c))))
  where
    by_clash : (t : Bool) → has_builtin (if t then h else added h c) b ≡ true
    by_clash true = e
    by_clash false = flag_added h c b e
flag_stays (of_symbol s ∷ ds) h b e = flag_stays ds (with_declaration h (of_symbol s)) b (flag_symbols (declared h.symbols s.name s.arity s.private) h b e)

-- Whence a held symbol comes.
from_one : (Q : Type 0) (ss : List Symbol) (s : Symbol) (x : List ℕ) (y : Symbol) → find_symbol (declared ss s.name s.arity s.private) x ≡ Some y
    → (find_symbol ss x ≡ Some y → Q) → (s ≡ y → s.name ≡ x → Q) → Q
from_one Q ss s x y e one two = by_held (is_some (find_symbol ss s.name)) e
  where
    by_held : (c : Bool) → find_symbol (if c then ss else ss ++ s ∷ []) x ≡ Some y → Q
    by_held true e = one e
    by_held false e = find_last Q ss s x y e one two

from_all : (Q : Type 0) (xs ss : List Symbol) (x : List ℕ) (y : Symbol) → find_symbol (declared_all ss xs) x ≡ Some y → (find_symbol ss x ≡ Some y → Q) → (is_among xs x ≡ true → Q) → Q
from_all Q [] ss x y e one two = one e
from_all Q (u ∷ xs) ss x y e one two =
    from_all Q xs (declared ss u.name u.arity u.private) x y e
    (λ h. from_one Q ss u x y h one (λ same n. two (first (bytes_eq x u.name) ((bytes_eq-Decides x u.name).1 (sym n)))))
    (λ h. two (later (bytes_eq x u.name) h))
  where
    first : (c : Bool) → c ≡ true → (c || is_among xs x) ≡ true
    first true e = refl
    first false e = absurd (cc (e))

    later : (c : Bool) → is_among xs x ≡ true → (c || is_among xs x) ≡ true
    later true e = refl
    later false e = e

-- the fact holds of each declared symbol
abbrev pub OfSymbols : (Symbol → Type 0) → List Declaration → Type 0
OfSymbols P [] = Unit {0}
OfSymbols P (of_builtin b ∷ ds) = OfSymbols P ds
OfSymbols P (of_symbol s ∷ ds) = P s × OfSymbols P ds

pub origin : (P : Symbol → Type 0) (Q : Type 0) (ds : List Declaration) (h : Sig) (x : List ℕ) (y : Symbol) → OfSymbols P ds → find_symbol (signature_from h ds).symbols x ≡ Some y
    → (find_symbol h.symbols x ≡ Some y → Q) → ((b : Builtin) → has_builtin (signature_from h ds) b ≡ true → is_among (builtin_symbols b) x ≡ true → Q) → (P y → Q) → Q
origin P Q [] h x y all e one two three = one e
origin P Q (of_symbol s ∷ ds) h x y all e one two three =
    origin P Q ds (with_declaration h (of_symbol s)) x y all.1 e (λ k. from_one Q h.symbols s x y k one (λ same n. three (subst P same all.0))) two three
origin P Q (of_builtin b ∷ ds) h x y all e one two three =
    origin P Q ds (with_declaration h (of_builtin b)) x y all e (λ k. by_clash (is_some (first_clash h.symbols (builtin_symbols b))) refl k) two three
  where
    by_clash : (c : Bool) → is_some (first_clash h.symbols (builtin_symbols b)) ≡ c → find_symbol (if c then h else added h b).symbols x ≡ Some y → Q
    by_clash true f k = one k
    by_clash false f k =
        let here : has_builtin (with_declaration h (of_builtin b)) b ≡ true = rw f (added_flag h b) in
        from_all Q (builtin_symbols b) h.symbols x y k one (λ among. two b (flag_stays ds (with_declaration h (of_builtin b)) b here) among)

-- a builtin of the signature brings its symbols
kept_first : (g : Sig) (b : Builtin) (x : List ℕ) (bs : List Builtin) → has_builtin g b ≡ true → is_among (builtin_symbols b) x ≡ true
    → list_any (λ (c : Builtin). is_among (builtin_symbols c) x) (filter (has_builtin g) (b ∷ bs)) ≡ true
kept_first g b x bs has among = rw (has, among) refl

kept_later : (g : Sig) (b : Builtin) (x : List ℕ) (bs : List Builtin) → list_any (λ (c : Builtin). is_among (builtin_symbols c) x) (filter (has_builtin g) bs) ≡ true
    → list_any (λ (c : Builtin). is_among (builtin_symbols c) x) (filter (has_builtin g) (b ∷ bs)) ≡ true
kept_later g b x bs e = by_test (has_builtin g b)
  where
    either_way : (c : Bool) → (c || list_any (λ (c : Builtin). is_among (builtin_symbols c) x) (filter (has_builtin g) bs)) ≡ true
    either_way true = refl
    either_way false = e

    by_test : (c : Bool) → list_any (λ (c : Builtin). is_among (builtin_symbols c) x) (if c then b ∷ filter (has_builtin g) bs else filter (has_builtin g) bs) ≡ true
    by_test true = either_way (is_among (builtin_symbols b) x)
    by_test false = e

pub builtin_brings : (g : Sig) (b : Builtin) (x : List ℕ) → has_builtin g b ≡ true → is_among (builtin_symbols b) x ≡ true
    → list_any (λ (c : Builtin). is_among (builtin_symbols c) x) (builtins_of g) ≡ true
builtin_brings g Hashing x has among =
    kept_first g Hashing x (Symmetric ∷ Asymmetric ∷ Signing ∷ RevealingSigning ∷ []) has among
builtin_brings g Symmetric x has among =
    kept_later g Hashing x (Symmetric ∷ Asymmetric ∷ Signing ∷ RevealingSigning ∷ []) (kept_first g Symmetric x (Asymmetric ∷ Signing ∷ RevealingSigning ∷ []) has among)
builtin_brings g Asymmetric x has among =
    kept_later g Hashing x (Symmetric ∷ Asymmetric ∷ Signing ∷ RevealingSigning ∷ []) (kept_later g Symmetric x (Asymmetric ∷ Signing ∷ RevealingSigning ∷ []) (kept_first g Asymmetric x (Signing ∷ RevealingSigning ∷ []) has among))
builtin_brings g Signing x has among =
    kept_later g Hashing x (Symmetric ∷ Asymmetric ∷ Signing ∷ RevealingSigning ∷ []) (kept_later g Symmetric x (Asymmetric ∷ Signing ∷ RevealingSigning ∷ []) (kept_later g Asymmetric x (Signing ∷ RevealingSigning ∷ []) (kept_first g Signing x (RevealingSigning ∷ []) has among)))
builtin_brings g RevealingSigning x has among =
    kept_later g Hashing x (Symmetric ∷ Asymmetric ∷ Signing ∷ RevealingSigning ∷ []) (kept_later g Symmetric x (Asymmetric ∷ Signing ∷ RevealingSigning ∷ []) (kept_later g Asymmetric x (Signing ∷ RevealingSigning ∷ []) (kept_later g Signing x (RevealingSigning ∷ []) (kept_first g RevealingSigning x [] has among))))
