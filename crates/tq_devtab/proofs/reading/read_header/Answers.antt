use Rattle.std.proofs.Common.{◌≡◌, ◌≤◌, ℕ, false, List, length, Option, Some, None, ◌∙◌, arith}
use Rattle.std.specs.Prelude.{IfSome, IfNone}
use Rattle.tq_host.specs.Calls.{HasBytesAt}
use Rattle.tq_model.specs.DeviceForm.{header_bytes}
use Rattle.tq_devtab.specs.declared.header.Header.{Header}
use Rattle.tq_devtab.specs.Header.{HasHeader, header_holds}
use Rattle.tq_devtab.proofs.HeaderLemmas.{holds_same, has_header}
use Rattle.tq_devtab.proofs.reading.read_header.Goals as goal

-- what is said of the first bytes, of the image that begins with them
module _ (R : Type 0) (start image : List ℕ) (size : length start ≡ 20) (long : R → header_bytes ≤ length image)
    (begins : R → HasBytesAt 0 start image) (place : Option ℕ) where
  header_read : (o : Option Header) → IfSome o (λ h. HasHeader place h start) → IfSome o (λ h. R → HasHeader place h image)
  header_read None has = tt
  header_read (Some h) has = λ told. let reached = long told in has_header start image size (omega arith) (begins told) place h has

  none_read : (o : Option Header) → IfNone o (header_holds place start ≡ false) → IfNone o (R → header_holds place image ≡ false)
  none_read None broken = λ told. let reached = long told in holds_same start image size (omega arith) (begins told) place ∙ broken
  none_read (Some h) broken = tt

pub returns-clause-header : goal.returns-clause-header
returns-clause-header g c =
    header_read g.H.Host.tells.reads c.read_at.new.into ((g.H.Host.view c.args.host.now).reads c.args.dev) (omega (arith, c.read_at.auto.into))
    c.requires.size c.in_ok-read_at.ensures.bytes c.args.place c.decode_header.result c.decode_header.ensures.header

pub returns-clause-none : goal.returns-clause-none
returns-clause-none g c =
    none_read g.H.Host.tells.reads c.read_at.new.into ((g.H.Host.view c.args.host.now).reads c.args.dev) (omega (arith, c.read_at.auto.into))
    c.requires.size c.in_ok-read_at.ensures.bytes c.args.place c.decode_header.result c.decode_header.ensures.none
