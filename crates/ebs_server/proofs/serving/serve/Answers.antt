use Rattle.ebs_server.proofs.Whole.{whole}
use Rattle.ebs_server.proofs.serving.serve.Goals as goal

pub returns : goal.returns
returns g c = whole g.D.Disk.view g.L.Listener.door c.args.disk c.args.posts.items c.serve_disk.result c.serve_disk.ensures
