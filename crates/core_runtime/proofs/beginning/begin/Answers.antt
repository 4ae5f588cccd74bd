use Rattle.core_runtime.proofs.beginning.begin.Goals as goal

pub returns : goal.returns
returns c = record {
  count = c.in_ok-cores.ensures.count;
  cores = c.in_ok-cores.ensures.cores;
  planned = c.in_ok-objects.ensures.planned;
  standing = c.in_ok-objects.ensures.standing;
  watched = c.in_ok-cores.ensures.watched c.in_ok-objects.objects.items;
}
