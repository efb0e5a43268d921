-- What data are behind the first word, or that they are nothing's, by what each datum is.
use Rattle.std.proofs.Common.{◌≡◌, ℕ, List, [], ◌∷◌, map, sym, ◌∙◌, ap}
use Rattle.serde_json.specs.Data.{Data, null, boolean, string, array, object, Items, unsigned}
use Rattle.serde_json.specs.Data as datum
use Rattle.sap_terms.specs.declared.binding.Binding.{Binding}
use Rattle.sap_run_lines.specs.LineWords.{number}
use Rattle.sap_run_lines.specs.StepLines.{bound_word}
use Rattle.sap_json.specs.declared.operands.Operands.{Operands}
use Rattle.sap_json.specs.declared.operands.Operands.TheVariants as op
use Rattle.sap_json.specs.Arrays.{IsWordData, IsCellData, many}
use Rattle.sap_json.specs.code.Operands.{AreOperands}
use Rattle.sap_json.specs.code.Reading.{IsNumberData, IsFreshData, IsPublicData, IsNameData, IsBindingData, IsListOf, AreUses}
use Rattle.sap_json.proofs.Each.{each_mapped, mapped_each}

-- lists of numbers and of bindings as lists of words
numbers_are : (ks : List ℕ) (d : Data) → IsListOf IsNumberData ks d → IsCellData (many (map number ks)) d
numbers_are ks d h = (h.0, h.1, each_mapped number IsWordData ks h.0 h.2)

are_numbers : (ks : List ℕ) (d : Data) → IsCellData (many (map number ks)) d → IsListOf IsNumberData ks d
are_numbers ks d h = (h.0, h.1, mapped_each number IsWordData ks h.0 h.2)

bindings_are : (bs : List Binding) (d : Data) → IsListOf IsBindingData bs d → IsCellData (many (map bound_word bs)) d
bindings_are bs d h = (h.0, h.1, each_mapped bound_word IsWordData bs h.0 h.2)

are_bindings : (bs : List Binding) (d : Data) → IsCellData (many (map bound_word bs)) d → IsListOf IsBindingData bs d
are_bindings bs d h = (h.0, h.1, mapped_each bound_word IsWordData bs h.0 h.2)

-- 0 of a number, 1 of anything else
abbrev sort_of : Data → ℕ
sort_of null = 1
sort_of (boolean b) = 1
sort_of (datum.number n) = 0
sort_of (string s) = 1
sort_of (array is) = 1
sort_of (object ms) = 1

pub no_name_is_number : (n : ℕ) (x : List ℕ) (d : Data) → d ≡ datum.number (unsigned n) → d ≡ string x → ⊥
no_name_is_number n x d e f = let same : ◌≡◌ {A = ℕ} 0 1 = ap sort_of (sym e ∙ f) in absurd (cc)

-- ---- what they are

pub number_is : (n : ℕ) (a : Data) → IsNumberData n a → AreOperands (op.Number n) (a ∷ [])
number_is n a h = (tt, (h, tt))

pub fresh_is : (n : ℕ) (a : Data) → IsFreshData n a → AreOperands (op.Fresh n) (a ∷ [])
fresh_is n a h = (tt, (h, tt))

pub public_is : (s : List ℕ) (a : Data) → IsPublicData s a → AreOperands (op.Public s) (a ∷ [])
public_is s a h = (tt, (h, tt))

pub numbers_is : (n m : ℕ) (a b : Data) → IsNumberData n a → IsNumberData m b → AreOperands (op.Numbers n m) (a ∷ b ∷ [])
numbers_is n m a b h k = (tt, (h, (k, tt)))

pub number_and_fresh_is : (n m : ℕ) (a b : Data) → IsNumberData n a → IsFreshData m b → AreOperands (op.NumberAndFresh n m) (a ∷ b ∷ [])
number_and_fresh_is n m a b h k = (tt, (h, (k, tt)))

pub applied_is : (f ks : List ℕ) (a b : Data) → IsNameData f a → IsListOf IsNumberData ks b → AreOperands (op.Applied f ks) (a ∷ b ∷ [])
applied_is f ks a b h k = (h.0, ((h.0.is, h.1), (numbers_are ks b k, tt)))

pub embedded_is : (n : ℕ) (u : List ℕ × List Binding) (a b c : Data) → IsNumberData n a → AreUses u (b, c) → AreOperands (op.Embedded n u.0 u.1) (a ∷ b ∷ c ∷ [])
embedded_is n u a b c h k = (tt, (h, (numbers_are u.0 b k.0, (bindings_are u.1 c k.1, tt))))

pub named_is : (x : List ℕ) (u : List ℕ × List Binding) (a b c : Data) → IsNameData x a → AreUses u (b, c) → AreOperands (op.Named x u.0 u.1) (a ∷ b ∷ c ∷ [])
named_is x u a b c h k = (h.0, ((h.0.is, h.1), (numbers_are u.0 b k.0, (bindings_are u.1 c k.1, tt))))

-- ---- or that they are nothing's

pub none_of_none : (o : Operands) → AreOperands o [] → ⊥
none_of_none (op.Number n) h = h.1
none_of_none (op.Numbers n m) h = h.1
none_of_none (op.NumberAndFresh n m) h = h.1
none_of_none (op.Fresh n) h = h.1
none_of_none (op.Public s) h = h.1
none_of_none (op.Applied f ks) h = h.1
none_of_none (op.Embedded n fs bs) h = h.1
none_of_none (op.Named f fs bs) h = h.1

pub none_of_one : (a : Data) → ((n : ℕ) → IsNumberData n a → ⊥) → ((n : ℕ) → IsFreshData n a → ⊥) → ((s : List ℕ) → IsPublicData s a → ⊥)
    → (o : Operands) → AreOperands o (a ∷ []) → ⊥
none_of_one a no_number no_fresh no_public (op.Number n) h = no_number n h.1.0
none_of_one a no_number no_fresh no_public (op.Numbers n m) h = h.1.1
none_of_one a no_number no_fresh no_public (op.NumberAndFresh n m) h = h.1.1
none_of_one a no_number no_fresh no_public (op.Fresh n) h = no_fresh n h.1.0
none_of_one a no_number no_fresh no_public (op.Public s) h = no_public s h.1.0
none_of_one a no_number no_fresh no_public (op.Applied f ks) h = h.1.1
none_of_one a no_number no_fresh no_public (op.Embedded n fs bs) h = h.1.1
none_of_one a no_number no_fresh no_public (op.Named f fs bs) h = h.1.1

-- a number stands first, and neither a number nor a fresh name second
pub none_of_number : (k : ℕ) (a b : Data) → IsNumberData k a → ((n : ℕ) → IsNumberData n b → ⊥) → ((n : ℕ) → IsFreshData n b → ⊥)
    → (o : Operands) → AreOperands o (a ∷ b ∷ []) → ⊥
none_of_number k a b is no_number no_fresh (op.Number n) h = h.1.1
none_of_number k a b is no_number no_fresh (op.Numbers n m) h = no_number m h.1.1.0
none_of_number k a b is no_number no_fresh (op.NumberAndFresh n m) h = no_fresh m h.1.1.0
none_of_number k a b is no_number no_fresh (op.Fresh n) h = h.1.1
none_of_number k a b is no_number no_fresh (op.Public s) h = h.1.1
none_of_number k a b is no_number no_fresh (op.Applied f ks) h = no_name_is_number k f a is.1 h.1.0.1
none_of_number k a b is no_number no_fresh (op.Embedded n fs bs) h = h.1.1.1
none_of_number k a b is no_number no_fresh (op.Named f fs bs) h = h.1.1.1

-- no number stands first, and they aren't a name and numbers
pub none_applied : (a b : Data) → ((n : ℕ) → IsNumberData n a → ⊥) → ((f ks : List ℕ) → IsNameData f a → IsListOf IsNumberData ks b → ⊥)
    → (o : Operands) → AreOperands o (a ∷ b ∷ []) → ⊥
none_applied a b no_number none (op.Number n) h = h.1.1
none_applied a b no_number none (op.Numbers n m) h = no_number n h.1.0
none_applied a b no_number none (op.NumberAndFresh n m) h = no_number n h.1.0
none_applied a b no_number none (op.Fresh n) h = h.1.1
none_applied a b no_number none (op.Public s) h = h.1.1
none_applied a b no_number none (op.Applied f ks) h = none f ks (h.0, h.1.0.1) (are_numbers ks b h.1.1.0)
none_applied a b no_number none (op.Embedded n fs bs) h = h.1.1.1
none_applied a b no_number none (op.Named f fs bs) h = h.1.1.1

pub none_of_uses : (a b c : Data) → ((u : List ℕ × List Binding) → AreUses u (b, c) → ⊥) → (o : Operands) → AreOperands o (a ∷ b ∷ c ∷ []) → ⊥
none_of_uses a b c none (op.Number n) h = h.1.1
none_of_uses a b c none (op.Numbers n m) h = h.1.1.1
none_of_uses a b c none (op.NumberAndFresh n m) h = h.1.1.1
none_of_uses a b c none (op.Fresh n) h = h.1.1
none_of_uses a b c none (op.Public s) h = h.1.1
none_of_uses a b c none (op.Applied f ks) h = h.1.1.1
none_of_uses a b c none (op.Embedded n fs bs) h = none (fs, bs) (are_numbers fs b h.1.1.0, are_bindings bs c h.1.1.1.0)
none_of_uses a b c none (op.Named f fs bs) h = none (fs, bs) (are_numbers fs b h.1.1.0, are_bindings bs c h.1.1.1.0)

pub none_of_three : (a b c : Data) → ((n : ℕ) → IsNumberData n a → ⊥) → ((x : List ℕ) → IsNameData x a → ⊥) → (o : Operands) → AreOperands o (a ∷ b ∷ c ∷ []) → ⊥
none_of_three a b c no_number no_name (op.Number n) h = h.1.1
none_of_three a b c no_number no_name (op.Numbers n m) h = h.1.1.1
none_of_three a b c no_number no_name (op.NumberAndFresh n m) h = h.1.1.1
none_of_three a b c no_number no_name (op.Fresh n) h = h.1.1
none_of_three a b c no_number no_name (op.Public s) h = h.1.1
none_of_three a b c no_number no_name (op.Applied f ks) h = h.1.1.1
none_of_three a b c no_number no_name (op.Embedded n fs bs) h = no_number n h.1.0
none_of_three a b c no_number no_name (op.Named f fs bs) h = no_name f (h.0, h.1.0.1)

pub none_of_four : (a b c d : Data) (ds : List Data) (o : Operands) → AreOperands o (a ∷ b ∷ c ∷ d ∷ ds) → ⊥
none_of_four a b c d ds (op.Number n) h = h.1.1
none_of_four a b c d ds (op.Numbers n m) h = h.1.1.1
none_of_four a b c d ds (op.NumberAndFresh n m) h = h.1.1.1
none_of_four a b c d ds (op.Fresh n) h = h.1.1
none_of_four a b c d ds (op.Public s) h = h.1.1
none_of_four a b c d ds (op.Applied f ks) h = h.1.1.1
none_of_four a b c d ds (op.Embedded n fs bs) h = h.1.1.1.1
none_of_four a b c d ds (op.Named f fs bs) h = h.1.1.1.1
