-- Symbols that are taken where they stand before these bytes.
use Rattle.std.proofs.Common.{◌≡◌, ℕ, Bool, true, false, List, [], ◌∷◌, ◌++◌, refl, subst, rules}
use Rattle.std.specs.Prelude.{◌==◌}
use Rattle.std.specs.Char.{is_ascii_digit}
use Rattle.sap_text.specs.declared.token.Kind.TheVariants as kind
use Rattle.sap_text.specs.Tokens.{IsToken, number, stands_alone}

digit_no : (c b : ℕ) → is_ascii_digit c ≡ false → is_ascii_digit b ≡ true → (b == c) ≡ false
digit_no c b e d = go (b == c) refl
  where
    is : (m n : ℕ) → (m == n) ≡ true → m ≡ n
    is m n e = search rules

    go : (t : Bool) → (b == c) ≡ t → (b == c) ≡ false
    go false e = e
    go true f = absurd (let x : is_ascii_digit c ≡ true = subst (λ (y : ℕ). is_ascii_digit y ≡ true) (is b c f) d in cc (e, x))

-- by how many bytes there are
by_rest : (P : List ℕ → Type 0) → P [] → ((x : ℕ) → P (x ∷ [])) → ((x y : ℕ) (z : List ℕ) → P (x ∷ y ∷ z)) → (z : List ℕ) → P z
by_rest P a b c [] = a
by_rest P a b c (x ∷ []) = b x
by_rest P a b c (x ∷ y ∷ z) = c x y z

-- the symbol is taken before these bytes
pub record IsTaken (s z : List ℕ) : Type 0 where
  pub is : stands_alone s z ≡ true

-- so is that of one byte
abbrev pub Alone : ℕ → List ℕ → Type 0
Alone b z = IsTaken (b ∷ []) z

pub alone_comma : (z : List ℕ) → Alone 44 z
alone_comma = by_rest (Alone 44) (record { is = refl }) (λ x. record { is = refl }) (λ x y z. record { is = refl })

pub alone_open : (z : List ℕ) → Alone 40 z
alone_open = by_rest (Alone 40) (record { is = refl }) (λ x. record { is = refl }) (λ x y z. record { is = refl })

pub alone_close : (z : List ℕ) → Alone 41 z
alone_close = by_rest (Alone 41) (record { is = refl }) (λ x. record { is = refl }) (λ x y z. record { is = refl })

pub alone_dot : (z : List ℕ) → Alone 46 z
alone_dot = by_rest (Alone 46) (record { is = refl }) (λ x. record { is = refl }) (λ x y z. record { is = refl })

pub alone_at : (z : List ℕ) → Alone 64 z
alone_at = by_rest (Alone 64) (record { is = refl }) (λ x. record { is = refl }) (λ x y z. record { is = refl })

pub alone_hash : (z : List ℕ) → Alone 35 z
alone_hash = by_rest (Alone 35) (record { is = refl }) (λ x. record { is = refl }) (λ x y z. record { is = refl })

pub alone_quotation : (z : List ℕ) → Alone 34 z
alone_quotation = by_rest (Alone 34) (record { is = refl }) (λ x. record { is = refl }) (λ x y z. record { is = refl })

-- these stand before a blank
pub alone_less : (z : List ℕ) → Alone 60 (32 ∷ z)
alone_less = by_rest (λ z. Alone 60 (32 ∷ z)) (record { is = refl }) (λ x. record { is = refl }) (λ x y z. record { is = refl })

pub alone_equals : (z : List ℕ) → Alone 61 (32 ∷ z)
alone_equals = by_rest (λ z. Alone 61 (32 ∷ z)) (record { is = refl }) (λ x. record { is = refl }) (λ x y z. record { is = refl })

pub alone_bar : (z : List ℕ) → Alone 124 (32 ∷ z)
alone_bar = by_rest (λ z. Alone 124 (32 ∷ z)) (record { is = refl }) (λ x. record { is = refl }) (λ x y z. record { is = refl })

pub alone_and : (z : List ℕ) → Alone 38 (32 ∷ z)
alone_and = by_rest (λ z. Alone 38 (32 ∷ z)) (record { is = refl }) (λ x. record { is = refl }) (λ x y z. record { is = refl })

pub arrow_implies : (z : List ℕ) → IsTaken (61 ∷ 61 ∷ 62 ∷ []) z
arrow_implies z = record { is = refl }

pub arrow_both : (z : List ℕ) → IsTaken (60 ∷ 61 ∷ 62 ∷ []) z
arrow_both z = record { is = refl }

-- Symbols that stand before other symbols.
pub alone_colon : (z : List ℕ) → Alone 58 z
alone_colon = by_rest (Alone 58) (record { is = refl }) (λ x. record { is = refl }) (λ x y z. record { is = refl })

pub alone_square : (z : List ℕ) → Alone 91 z
alone_square = by_rest (Alone 91) (record { is = refl }) (λ x. record { is = refl }) (λ x y z. record { is = refl })

-- a closing bracket before a blank, a line feed, a comma or a colon
pub square_blank : (z : List ℕ) → Alone 93 (32 ∷ z)
square_blank = by_rest (λ z. Alone 93 (32 ∷ z)) (record { is = refl }) (λ x. record { is = refl }) (λ x y z. record { is = refl })

pub square_feed : (z : List ℕ) → Alone 93 (10 ∷ z)
square_feed = by_rest (λ z. Alone 93 (10 ∷ z)) (record { is = refl }) (λ x. record { is = refl }) (λ x y z. record { is = refl })

pub square_comma : (z : List ℕ) → Alone 93 (44 ∷ z)
square_comma = by_rest (λ z. Alone 93 (44 ∷ z)) (record { is = refl }) (λ x. record { is = refl }) (λ x y z. record { is = refl })

pub square_colon : (z : List ℕ) → Alone 93 (58 ∷ z)
square_colon = by_rest (λ z. Alone 93 (58 ∷ z)) (record { is = refl }) (λ x. record { is = refl }) (λ x y z. record { is = refl })

-- a hyphen before `e`, `s` or `t`
pub hyphen_e : (z : List ℕ) → Alone 45 (101 ∷ z)
hyphen_e = by_rest (λ z. Alone 45 (101 ∷ z)) (record { is = refl }) (λ x. record { is = refl }) (λ x y z. record { is = refl })

pub hyphen_s : (z : List ℕ) → Alone 45 (115 ∷ z)
hyphen_s = by_rest (λ z. Alone 45 (115 ∷ z)) (record { is = refl }) (λ x. record { is = refl }) (λ x y z. record { is = refl })

pub hyphen_t : (z : List ℕ) → Alone 45 (116 ∷ z)
hyphen_t = by_rest (λ z. Alone 45 (116 ∷ z)) (record { is = refl }) (λ x. record { is = refl }) (λ x y z. record { is = refl })

slash_digit : (d : ℕ) (z : List ℕ) → is_ascii_digit d ≡ true → Alone 47 (d ∷ z)
slash_digit d [] l = record { is = rw (digit_no 47 d refl l, digit_no 42 d refl l) refl }
slash_digit d (x ∷ z) l = record { is = rw (digit_no 47 d refl l, digit_no 42 d refl l) refl }

pub slash_number : (p z : List ℕ) → IsToken kind.Number p → Alone 47 (p ++ z)
slash_number p z (number {b = b} {z = ds} l w) = slash_digit b (ds ++ z) l

pub arrow_silent : (z : List ℕ) → IsTaken (45 ∷ 45 ∷ 62 ∷ []) z
arrow_silent z = record { is = refl }

pub arrow_opens : (z : List ℕ) → IsTaken (45 ∷ 45 ∷ 91 ∷ []) z
arrow_opens z = record { is = refl }

pub arrow_closes : (z : List ℕ) → IsTaken (93 ∷ 45 ∷ 62 ∷ []) z
arrow_closes z = record { is = refl }
