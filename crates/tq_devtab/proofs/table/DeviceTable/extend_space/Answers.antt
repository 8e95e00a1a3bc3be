use Rattle.std.proofs.Common.{◌≤◌, ◌*◌, List, Option, length, refl, sym, ap, ◌∙◌, subst, arith}
use Rattle.tq_host.specs.View.{IsSettled}
use Rattle.tq_host.specs.Within.{Within}
use Rattle.tq_gate.specs.declared.layout.Layout.{Layout}
use Rattle.tq_model.specs.DeviceForm.{cluster_bytes}
use Rattle.tq_model.specs.Reading.{NamedSpace}
use Rattle.tq_devtab.specs.Device.{IsAny, IsLonger}
use Rattle.tq_devtab.specs.Table.{IsTable}
use Rattle.tq_devtab.specs.Volume.{IsSameButTable, IsTableOrNext, most_bytes, with_longer}
use Rattle.tq_devtab.specs.InMemory.{dev_of, part_of, place_of}
use Rattle.tq_devtab.proofs.LongerLemmas.{further_reached, images_grown, longer_alone, longer_entries, longer_in, longer_none, longer_table, longer_then, stop_grown, stop_none, stop_stored, table_of_longer}
use Rattle.tq_devtab.proofs.StoreLemmas.{space_there, table_images}
use Rattle.tq_devtab.proofs.table.DeviceTable.extend_space.Goals as goal

pub returns-in_err-entry-clause-stop : goal.returns-in_err-entry-clause-stop
returns-in_err-entry-clause-stop g c = λ are.
    let t = c.args.self.now in
    stop_none t (with_longer c.args.ordinal c.args.pages (part_of t)) (g.H.Host.view c.args.host.now) are

pub grow-requires-clause-size : goal.grow-requires-clause-size
grow-requires-clause-size g c =
    let t = c.args.self.now in
    let n = space_there t c.args.ordinal c.requires.there in
    let end = c.in_ok-entry.ensures.least n.0 n.1 (cluster_bytes * t.clusters) (further_reached t c.args.ordinal c.args.pages n.0 n.1) in
    omega (arith, end, t.most)

pub returns-in_err-grow-clause-stop : goal.returns-in_err-grow-clause-stop
returns-in_err-grow-clause-stop g c = λ are.
    let t = c.args.self.now in
    let n = space_there t c.args.ordinal c.requires.there in
    let end = c.in_ok-entry.ensures.least n.0 n.1 (cluster_bytes * t.clusters) (further_reached t c.args.ordinal c.args.pages n.0 n.1) in
    let old = g.H.Host.view c.args.host.now in
    let mid = g.H.Host.view c.grow.new.host in
    stop_grown t (with_longer c.args.ordinal c.args.pages (part_of t)) c.in_ok-entry.end end old mid are
    (subst (λ (l : Layout). Within l.dev (IsLonger c.in_ok-entry.end) IsAny old mid) c.layout.ensures c.grow.ensures.stop)

pub invariant_of-self : goal.invariant_of-self
invariant_of-self g c =
    let t = c.args.self.now in
    let n = space_there t c.args.ordinal c.requires.there in
    let is = longer_entries t c.args.ordinal c.args.pages n.0 n.1 c.in_ok-entry.entry c.space_at-index.result c.as_slice.result.now c.as_slice.ensures.value
    (c.in_ok-entry.ensures.entry n.0 n.1) c.space_at-index.ensures.change in
    let least = c.in_ok-entry.ensures.least n.0 n.1 (cluster_bytes * t.clusters) (further_reached t c.args.ordinal c.args.pages n.0 n.1) in
    let reach = c.in_ok-entry.ensures.reach n.0 n.1 most_bytes (omega (arith, least, t.most)) in
    record {
      number = t.number;
      layout = t.layout;
      room = t.room;
      some = t.some;
      least = t.least;
      most = t.most;
      table = subst (IsTable t.next t.clusters most_bytes) (sym is)
          (longer_table t c.args.ordinal c.args.pages n.0 n.1 most_bytes (c.requires.most n.0 n.1) (c.in_ok-entry.ensures.enough n.0 n.1) t.table reach);
    }

pub returns-in_err-store-clause-stop : goal.returns-in_err-store-clause-stop
returns-in_err-store-clause-stop g c = λ are.
    let t = c.args.self.now in
    let dev = dev_of t in
    let n = space_there t c.args.ordinal c.requires.there in
    let more = c.in_ok-entry.end in
    let end = c.in_ok-entry.ensures.least n.0 n.1 (cluster_bytes * t.clusters) (further_reached t c.args.ordinal c.args.pages n.0 n.1) in
    let old = g.H.Host.view c.args.host.now in
    let mid = g.H.Host.view c.grow.new.host in
    let new = g.H.Host.view c.store.new.host in
    let is = longer_entries t c.args.ordinal c.args.pages n.0 n.1 c.in_ok-entry.entry c.space_at-index.result c.as_slice.result.now c.as_slice.ensures.value
    (c.in_ok-entry.ensures.entry n.0 n.1) c.space_at-index.ensures.change in
    let grown : g.H.Host.tells.reads → IsLonger more (old.reads dev) (mid.reads dev) × (more ≤ length (mid.reads dev)) = λ told.
    subst (λ (l : Layout). IsLonger more (old.reads l.dev) (mid.reads l.dev) × (more ≤ length (mid.reads l.dev))) c.layout.ensures (c.in_ok-grow.ensures.done told) in
    let settled = subst (λ (l : Layout). IsSettled l.dev mid) c.layout.ensures c.in_ok-grow.ensures.settled in
    stop_stored t (with_longer c.args.ordinal c.args.pages (part_of t)) more end old mid are
    (subst (λ (l : Layout). Within l.dev (IsLonger more) IsAny old mid) c.layout.ensures c.grow.ensures.stop) new (g.met.H.Host.lawful c.args.host.now) (λ told. (grown told).0)
    (subst (λ (l : List (Option NamedSpace)). Within dev (IsSameButTable dev)
    (IsTableOrNext dev (place_of t) (part_of t) (record (part_of t) { entries = l }) (mid.reads dev)) mid new) is
    (c.store.ensures.stop (part_of t) (λ image may.
    let was = images_grown t (part_of t) more end old mid (g.met.H.Host.lawful c.args.host.now) (g.met.H.Host.lawful c.grow.new.host) settled grown are image may in
    record {
      has = was.0.has;
      site = refl;
      clusters = refl;
      fits = subst (IsTable t.next t.clusters (length image)) (sym is)
          (longer_in t c.args.ordinal c.args.pages n.0 n.1 more image (c.requires.most n.0 n.1) (c.in_ok-entry.ensures.enough n.0 n.1) (c.in_ok-entry.ensures.reach n.0 n.1) was);
      holds = was.0.holds;
      log = was.0.log;
    })))

pub returns-clause-stop : goal.returns-clause-stop
returns-clause-stop g c = λ are.
    let t = c.args.self.now in
    let dev = dev_of t in
    let n = space_there t c.args.ordinal c.requires.there in
    let more = c.in_ok-entry.end in
    let end = c.in_ok-entry.ensures.least n.0 n.1 (cluster_bytes * t.clusters) (further_reached t c.args.ordinal c.args.pages n.0 n.1) in
    let old = g.H.Host.view c.args.host.now in
    let mid = g.H.Host.view c.grow.new.host in
    let new = g.H.Host.view c.store.new.host in
    let is = longer_entries t c.args.ordinal c.args.pages n.0 n.1 c.in_ok-entry.entry c.space_at-index.result c.as_slice.result.now c.as_slice.ensures.value
    (c.in_ok-entry.ensures.entry n.0 n.1) c.space_at-index.ensures.change in
    let grown : g.H.Host.tells.reads → IsLonger more (old.reads dev) (mid.reads dev) × (more ≤ length (mid.reads dev)) = λ told.
    subst (λ (l : Layout). IsLonger more (old.reads l.dev) (mid.reads l.dev) × (more ≤ length (mid.reads l.dev))) c.layout.ensures (c.in_ok-grow.ensures.done told) in
    let settled = subst (λ (l : Layout). IsSettled l.dev mid) c.layout.ensures c.in_ok-grow.ensures.settled in
    stop_stored t (with_longer c.args.ordinal c.args.pages (part_of t)) more end old mid are
    (subst (λ (l : Layout). Within l.dev (IsLonger more) IsAny old mid) c.layout.ensures c.grow.ensures.stop) new (g.met.H.Host.lawful c.args.host.now) (λ told. (grown told).0)
    (subst (λ (l : List (Option NamedSpace)). Within dev (IsSameButTable dev)
    (IsTableOrNext dev (place_of t) (part_of t) (record (part_of t) { entries = l }) (mid.reads dev)) mid new) is
    (c.store.ensures.stop (part_of t) (λ image may.
    let was = images_grown t (part_of t) more end old mid (g.met.H.Host.lawful c.args.host.now) (g.met.H.Host.lawful c.grow.new.host) settled grown are image may in
    record {
      has = was.0.has;
      site = refl;
      clusters = refl;
      fits = subst (IsTable t.next t.clusters (length image)) (sym is)
          (longer_in t c.args.ordinal c.args.pages n.0 n.1 more image (c.requires.most n.0 n.1) (c.in_ok-entry.ensures.enough n.0 n.1) (c.in_ok-entry.ensures.reach n.0 n.1) was);
      holds = was.0.holds;
      log = was.0.log;
    })))

pub returns-clause-part : goal.returns-clause-part
returns-clause-part g c =
    let t = c.args.self.now in
    let n = space_there t c.args.ordinal c.requires.there in
    let is = longer_entries t c.args.ordinal c.args.pages n.0 n.1 c.in_ok-entry.entry c.space_at-index.result c.as_slice.result.now c.as_slice.ensures.value
    (c.in_ok-entry.ensures.entry n.0 n.1) c.space_at-index.ensures.change in
    c.store.ensures.part ∙ ap (λ (l : List (Option NamedSpace)). record (part_of t) { entries = l }) is

pub returns-clause-extended : goal.returns-clause-extended
returns-clause-extended g c = λ told has.
    let t = c.args.self.now in
    let dev = dev_of t in
    let n = space_there t c.args.ordinal c.requires.there in
    let more = c.in_ok-entry.end in
    let end = c.in_ok-entry.ensures.least n.0 n.1 (cluster_bytes * t.clusters) (further_reached t c.args.ordinal c.args.pages n.0 n.1) in
    let old = g.H.Host.view c.args.host.now in
    let mid = g.H.Host.view c.grow.new.host in
    let is = longer_entries t c.args.ordinal c.args.pages n.0 n.1 c.in_ok-entry.entry c.space_at-index.result c.as_slice.result.now c.as_slice.ensures.value
    (c.in_ok-entry.ensures.entry n.0 n.1) c.space_at-index.ensures.change in
    let image = mid.reads dev in
    let grown = subst (λ (l : Layout). IsLonger more (old.reads l.dev) (mid.reads l.dev) × (more ≤ length (mid.reads l.dev))) c.layout.ensures (c.in_ok-grow.ensures.done told) in
    let was = table_of_longer t (part_of t) more end (old.reads dev) image grown.0 has in
    c.in_ok-store.ensures.stored told (part_of t) (record {
      has = was.has;
      site = refl;
      clusters = refl;
      fits = subst (IsTable t.next t.clusters (length image)) (sym is)
          (longer_in t c.args.ordinal c.args.pages n.0 n.1 more image (c.requires.most n.0 n.1) (c.in_ok-entry.ensures.enough n.0 n.1) (c.in_ok-entry.ensures.reach n.0 n.1)
          (was, grown.1));
      holds = was.holds;
      log = was.log;
    })

pub returns-clause-images : goal.returns-clause-images
returns-clause-images g c = λ are.
    table_images c.args.self.now c.store.new.self (g.H.Host.view c.args.host.now) (g.H.Host.view c.store.new.host) (g.met.H.Host.lawful c.args.host.now) (g.met.H.Host.lawful c.store.new.host)
    c.store.ensures.dev c.in_ok-store.ensures.settled (returns-clause-extended g c) are

pub returns-in_err-entry-clause-outside : goal.returns-in_err-entry-clause-outside
returns-in_err-entry-clause-outside g c = λ told.
    let t = c.args.self.now in
    longer_none (dev_of t) (cluster_bytes * t.clusters) ((g.H.Host.view c.args.host.now).reads (dev_of t))

pub returns-in_err-grow-clause-outside : goal.returns-in_err-grow-clause-outside
returns-in_err-grow-clause-outside g c = λ told.
    let t = c.args.self.now in
    let n = space_there t c.args.ordinal c.requires.there in
    let more = c.in_ok-entry.end in
    let end = c.in_ok-entry.ensures.least n.0 n.1 (cluster_bytes * t.clusters) (further_reached t c.args.ordinal c.args.pages n.0 n.1) in
    let old = g.H.Host.view c.args.host.now in
    let mid = g.H.Host.view c.grow.new.host in
    longer_alone (dev_of t) more (cluster_bytes * t.clusters) (old.reads (dev_of t)) (mid.reads (dev_of t)) end
    (subst (λ (l : Layout). IsLonger more (old.reads l.dev) (mid.reads l.dev)) c.layout.ensures (c.grow.ensures.outside told))

pub returns-in_err-store-clause-outside : goal.returns-in_err-store-clause-outside
returns-in_err-store-clause-outside g c = λ told.
    let t = c.args.self.now in
    let n = space_there t c.args.ordinal c.requires.there in
    let more = c.in_ok-entry.end in
    let end = c.in_ok-entry.ensures.least n.0 n.1 (cluster_bytes * t.clusters) (further_reached t c.args.ordinal c.args.pages n.0 n.1) in
    let old = g.H.Host.view c.args.host.now in
    let mid = g.H.Host.view c.grow.new.host in
    let grown = subst (λ (l : Layout). IsLonger more (old.reads l.dev) (mid.reads l.dev)) c.layout.ensures (c.grow.ensures.outside told) in
    longer_then (dev_of t) more (cluster_bytes * t.clusters) (old.reads (dev_of t)) (mid.reads (dev_of t))
    ((g.H.Host.view c.store.new.host).reads (dev_of t)) end grown (c.store.ensures.outside told)

pub returns-clause-outside : goal.returns-clause-outside
returns-clause-outside g c = λ told.
    let t = c.args.self.now in
    let n = space_there t c.args.ordinal c.requires.there in
    let more = c.in_ok-entry.end in
    let end = c.in_ok-entry.ensures.least n.0 n.1 (cluster_bytes * t.clusters) (further_reached t c.args.ordinal c.args.pages n.0 n.1) in
    let old = g.H.Host.view c.args.host.now in
    let mid = g.H.Host.view c.grow.new.host in
    let grown = subst (λ (l : Layout). IsLonger more (old.reads l.dev) (mid.reads l.dev)) c.layout.ensures (c.grow.ensures.outside told) in
    longer_then (dev_of t) more (cluster_bytes * t.clusters) (old.reads (dev_of t)) (mid.reads (dev_of t))
    ((g.H.Host.view c.store.new.host).reads (dev_of t)) end grown (c.store.ensures.outside told)
