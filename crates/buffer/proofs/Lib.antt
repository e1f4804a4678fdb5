mod Tips
