use Rattle.std.proofs.Common.{◌≡◌, length, sym, ap, ◌∙◌, arith}
use Rattle.tq_store.specs.Page.{shape_in}
use Rattle.tq_store.proofs.ReadingLemmas.{page_stands, creation_of}
use Rattle.tq_store.proofs.reading.read_shape.Goals as goal

pub returns-in-Some-clause-shape : goal.returns-in-Some-clause-shape
returns-in-Some-clause-shape g c = λ told.
    let page = c.read_at.new.into in
    let image = (g.H.Host.view c.args.host.now).reads c.args.place.now.dev in
    let long : length page ≡ 1024 = omega arith in
    let pages = c.args.place.now.pages in
    let same = page_stands c.args.place.now c.args.map.now page image c.requires.place (c.requires.reach told) long (c.in_ok-read_at.ensures.bytes told) in
    sym (ap (shape_in pages) same) ∙ sym c.decode_page.ensures.shape ∙ c.in-Some.is

pub returns-in-Some-clause-creation : goal.returns-in-Some-clause-creation
returns-in-Some-clause-creation g c = creation_of c.args.place.now c.read_at.new.into c.in-Some.shape (sym c.decode_page.ensures.shape ∙ c.in-Some.is)

pub returns-in-None-clause-damaged : goal.returns-in-None-clause-damaged
returns-in-None-clause-damaged g c = λ is told.
    let page = c.read_at.new.into in
    let image = (g.H.Host.view c.args.host.now).reads c.args.place.now.dev in
    let long : length page ≡ 1024 = omega arith in
    let pages = c.args.place.now.pages in
    let same = page_stands c.args.place.now c.args.map.now page image c.requires.place (c.requires.reach told) long (c.in_ok-read_at.ensures.bytes told) in
    sym (ap (shape_in pages) same) ∙ sym c.decode_page.ensures.shape ∙ c.in-None.is
