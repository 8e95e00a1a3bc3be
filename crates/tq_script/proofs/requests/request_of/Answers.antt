use Rattle.std.proofs.Common.{map}
use Rattle.tq_script.proofs.RequestLemmas.{request_exists}
use Rattle.tq_script.specs.Rows.{given_of}
use Rattle.tq_script.proofs.requests.request_of.Goals as goal

pub returns-in-ListDevice-clause-some : goal.returns-in-ListDevice-clause-some
returns-in-ListDevice-clause-some c =
    let given = map given_of c.args.given.items in
    rw (c.list_device.ensures given, ← c.in-ListDevice.is) (request_exists c.args.verb _ given c.requires.values c.requires.given)

pub returns-in-CreateQueue-clause-some : goal.returns-in-CreateQueue-clause-some
returns-in-CreateQueue-clause-some c =
    let given = map given_of c.args.given.items in
    rw (c.create_queue.ensures given, ← c.in-CreateQueue.is) (request_exists c.args.verb _ given c.requires.values c.requires.given)

pub returns-in-EraseDevice-clause-some : goal.returns-in-EraseDevice-clause-some
returns-in-EraseDevice-clause-some c =
    let given = map given_of c.args.given.items in
    rw (c.erase_device.ensures given, ← c.in-EraseDevice.is) (request_exists c.args.verb _ given c.requires.values c.requires.given)
