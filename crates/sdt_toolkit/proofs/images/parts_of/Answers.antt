use Rattle.sdt_toolkit.proofs.InputLemmas.{archive_more, archive_same, object_more, object_same}
use Rattle.sdt_toolkit.proofs.images.parts_of.Goals as goal

pub loop-input-preserved-in-Continue-1 : goal.loop-input-preserved-in-Continue-1
loop-input-preserved-in-Continue-1 c = record {
  objects = rw c.in_ok-push-in-Object.ensures.items (object_more c.loop-input.yielded c.in-Some.input c.in-Object.value c.loop-input.objects.items c.loop-input.invariant.objects c.in-Object.is);
  archives = archive_same c.loop-input.yielded c.in-Some.input c.in-Object.value c.loop-input.archives.items c.loop-input.invariant.archives c.in-Object.is;
}

pub loop-input-preserved : goal.loop-input-preserved
loop-input-preserved c = record {
  objects = object_same c.loop-input.yielded c.in-Some.input c.in-Library.value c.loop-input.objects.items c.loop-input.invariant.objects c.in-Library.is;
  archives = rw c.in_ok-push-in-Library.ensures.items (archive_more c.loop-input.yielded c.in-Some.input c.in-Library.value c.loop-input.archives.items c.loop-input.invariant.archives c.in-Library.is);
}
