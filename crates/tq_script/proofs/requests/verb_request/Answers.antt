use Rattle.tq_model.specs.Grammar.{row_of}
use Rattle.tq_script.proofs.Spelt.{AreOfKinds-scan}
use Rattle.tq_script.proofs.OfRows.{AreOfRows-scan}
use Rattle.tq_script.specs.Cutting.{words_of}
use Rattle.tq_script.proofs.requests.verb_request.Goals as goal

pub request_of-requires-clause-values : goal.request_of-requires-clause-values
request_of-requires-clause-values c = rw c.deref.ensures.value (AreOfKinds-scan _ _ _ _ _ c.in-Ok.ensures)

pub request_of-requires-clause-given : goal.request_of-requires-clause-given
request_of-requires-clause-given c =
    let row = row_of c.args.verb in
    AreOfRows-scan row.positional row.keyed (words_of c.args.words.column c.args.words.rest.now) _ _ c.in-Ok.ensures
