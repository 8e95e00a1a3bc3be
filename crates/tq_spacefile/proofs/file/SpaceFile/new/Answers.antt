use Rattle.std.proofs.Common.{◌≡◌, ℕ, List, ap, refl, sym, subst, true, ◌∙◌, arith}
use Rattle.tq_extent.specs.Bytes.{reaches}
use Rattle.tq_gate.specs.declared.layout.Layout.{Layout}
use Rattle.tq_gate.specs.Layout.{clusters_of, bytes_in, first_area, log_length}
use Rattle.tq_gate.specs.Log.{free_in, layout_of}
use Rattle.tq_gate.specs.Reading.{content_on, area_of}
use Rattle.tq_model.specs.SpaceForm.{log_bytes}
use Rattle.tq_spacefile.specs.Place.{log_layout}
use Rattle.tq_spacefile.specs.File.{IsFormatted}
use Rattle.tq_spacefile.proofs.Files.{formatted_file}
use Rattle.tq_spacefile.proofs.file.SpaceFile.new.Goals as goal

pub returns-clause-on : goal.returns-clause-on
returns-clause-on c = λ epoch image is reach.
    let place = c.args.place.now in
    let made = c.log_layout.ensures.layout in
    let own = clusters_of (layout_of c.empty.result) in
    let clusters : own ≡ c.args.map = ap (λ (l : Layout). clusters_of l) (c.empty.ensures.layout ∙ made) in
    let back : c.log_layout.result ≡ log_layout place own = made ∙ ap (log_layout place) (sym clusters) in
    let free : free_in c.empty.result ≡ log_bytes place.pages = c.empty.ensures.free ∙ ap (λ (l : Layout). log_length l) made in
    formatted_file _ c.args.shape.now epoch image c.requires.pages c.new.ensures.held (omega (arith, free))
    (λ k same none. c.empty.ensures.on k image (subst (λ (l : Layout). reaches (clusters_of l) image ≡ true) (sym made) reach)
    (subst (λ (l : Layout). area_of l (bytes_in l image) ≡ first_area l) (sym made) refl) (ap (λ (l : Layout). content_on l image) back ∙ same) none)
    (subst (λ (map : List ℕ). IsFormatted c.args.shape.now map image) (sym clusters) is) (subst (λ (map : List ℕ). reaches map image ≡ true) (sym clusters) reach)
