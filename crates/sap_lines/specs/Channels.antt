-- The channel that a thread sends on, and why it has none.
use Rattle.std.specs.Prelude.{◌≡◌, ◌⊎◌, ℕ, [], ◌∷◌}
use Rattle.sap_terms.specs.Equations.{equations}
use Rattle.sap_terms.specs.Normal.{IsNormalForm}
use Rattle.sap_terms.specs.Signature.{Sig}
use Rattle.sap_terms.specs.Tree.{Tree}
use Rattle.sap_process.specs.Action.{send}
use Rattle.sap_process.specs.Configuration.{Config, Runs}
use Rattle.sap_process.specs.Proc.{Proc, act}
use Rattle.sap_lines.specs.Faults.{EvaluateLarge, EvaluateSmall, IsUnfit, is_send}
use Rattle.sap_lines.specs.declared.fault.PFault.{PFault}
use Rattle.sap_lines.specs.declared.fault.PFault.TheVariants as fault

-- the thread sends on a channel whose normal form is this term, and channel and message are
-- evaluated within the limit
pub record SendsOn (g : Sig) (c : Config) (t : ℕ) (x : Tree) : Type 0 where
  pub channel : Tree
  pub message : Tree
  pub behind : Proc
  pub runs : Runs c t (act (send channel message) behind)
  pub form : IsNormalForm (equations g) channel x
  pub small : EvaluateSmall g (channel ∷ message ∷ [])

-- Why it doesn't, in the order of the causes: it isn't running, or doesn't send on a channel; or the
-- channel or the message is too large. Want of memory may come first.
pub data HasNoChannel (g : Sig) (c : Config) (t : ℕ) : PFault → Type 0 where
  no_memory : HasNoChannel g c t fault.Mem
  unfit : {f : PFault} → IsUnfit c t is_send f → HasNoChannel g c t f
  too_large : {m n : Tree} {p : Proc} → Runs c t (act (send m n) p) → EvaluateLarge g (m ∷ n ∷ [])
      → HasNoChannel g c t fault.TermLarge

-- a thread sends on one channel
abbrev pub ChannelsAreOne : Type 0
ChannelsAreOne =
    (g : Sig) (c : Config) (t : ℕ) (x y : Tree) → SendsOn g c t x → SendsOn g c t y → x ≡ y

-- one that sends on a channel has none for want of memory alone
abbrev pub ChannelsHaveOneAnswer : Type 0
ChannelsHaveOneAnswer =
    (g : Sig) (c : Config) (t : ℕ) (x : Tree) (e : PFault) → SendsOn g c t x
    → HasNoChannel g c t e → e ≡ fault.Mem

-- two causes for which it has none are one, but for want of memory
abbrev pub MissingChannelsAreOne : Type 0
MissingChannelsAreOne =
    (g : Sig) (c : Config) (t : ℕ) (e f : PFault) → HasNoChannel g c t e → HasNoChannel g c t f
    → (e ≡ fault.Mem) ⊎ ((f ≡ fault.Mem) ⊎ (e ≡ f))
