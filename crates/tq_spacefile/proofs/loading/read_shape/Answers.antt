use Rattle.std.proofs.Common.{◌≡◌, length, sym, ap, ◌∙◌, arith}
use Rattle.tq_spacefile.specs.Page.{shape_in}
use Rattle.tq_spacefile.specs.declared.fault.FileError.TheVariants.{Damaged, Device}
use Rattle.tq_spacefile.proofs.Loads.{error_is, page_stands}
use Rattle.tq_spacefile.proofs.loading.read_shape.Goals as goal

no_device : Damaged ≡ Device → ⊥
no_device is = cc

pub returns-in_err-read_at-clause-damaged : goal.returns-in_err-read_at-clause-damaged
returns-in_err-read_at-clause-damaged g c = λ is told. absurd (no_device (error_is c.from_residual.result Device Damaged c.from_residual.ensures.1 is))

pub returns-in-Some-clause-damaged : goal.returns-in-Some-clause-damaged
returns-in-Some-clause-damaged g c = λ is told. cc

pub returns-in-Some-clause-shape : goal.returns-in-Some-clause-shape
returns-in-Some-clause-shape g c = λ told.
    let page = c.read_at.new.into in
    let image = (g.H.Host.view c.args.host.now).reads c.args.place.now.dev in
    let long : length page ≡ 1024 = omega arith in
    let pages = c.args.place.now.pages in
    let same = page_stands c.args.place.now c.args.map.now page image c.requires.place (c.requires.reach told) long (c.in_ok-read_at.ensures.bytes told) in
    sym (ap (shape_in pages) same) ∙ sym c.decode_page.ensures.shape ∙ c.in-Some.is

pub returns-in-None-clause-damaged : goal.returns-in-None-clause-damaged
returns-in-None-clause-damaged g c = λ is told.
    let page = c.read_at.new.into in
    let image = (g.H.Host.view c.args.host.now).reads c.args.place.now.dev in
    let long : length page ≡ 1024 = omega arith in
    let pages = c.args.place.now.pages in
    let same = page_stands c.args.place.now c.args.map.now page image c.requires.place (c.requires.reach told) long (c.in_ok-read_at.ensures.bytes told) in
    sym (ap (shape_in pages) same) ∙ sym c.decode_page.ensures.shape ∙ c.in-None.is
