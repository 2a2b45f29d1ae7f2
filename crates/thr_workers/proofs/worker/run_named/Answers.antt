use denote.Param.Send.{sendable}
use Rattle.thr_workers.proofs.Crossing.{monitor_sync}
use Rattle.thr_workers.proofs.worker.run_named.Goals as goal

pub serve_all-requires-sync-D : goal.serve_all-requires-sync-D
serve_all-requires-sync-D g c κs within = search (monitor_sync, sendable) depth 60 fits 20000
