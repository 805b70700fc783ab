use Rattle.memory_stores.proofs.Reading.{archive_free}
use Rattle.memory_stores.proofs.archive.ArchiveReadStore.free.Goals as goal

pub returns : goal.returns
returns g c = archive_free g.E.Element.blank c.args.self.now.values.now c.args.self.now.width
